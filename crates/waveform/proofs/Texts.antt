-- Texts of runs are judged well, what is judged well is the text of a run, and the line that is told of any other is the first after
-- which no run's lines begin so.
use mathlib.Core.Path.{◌≡◌, refl, sym, ap, subst, ◌∙◌}
use mathlib.Core.Bool.{Bool, true, false, not, cond, ◌&&◌}
use mathlib.Core.List.{List, [], ◌∷◌, ◌++◌, map, map-append}
use Prim.Native.Nat.{ℕ, zero, suc, ◌+◌, ◌≤◌, ◌<◌}
use native.Mathlib.Omega.{arith}
use lib.Dec.{leb, ltb, eqb}
use lib.ListN.{length, take, get_or, length-append}
use borrow.Author.Tests.{le-leb, lt-ltb, eq-eqb, ne_eqb, eqb-true, not-true}
use Rattle.std.specs.Prelude.{Ok, Err}
use Rattle.lists.specs.Lists.{every, Each}
use Rattle.lists.proofs.Lists.{each_append}
use Rattle.lists.proofs.Places.{each_of_every}
use Rattle.lists.proofs.Tests.{both, both_made, false_not_true}
use Rattle.ticks.specs.Ticks.{last_instant}
use Rattle.feeds.specs.Feeds.{most_feeds}
use Rattle.answers.specs.declared.Who.{Who}
use Rattle.text.specs.Numbers.{is_digit, all_digits, digits, bits}
use Rattle.text.specs.Fields.{space, newline, grown, parted, lines_of}
use Rattle.text.proofs.Numbers.{decimal, binary, digit_is, digits_all}
use Rattle.text.proofs.Fields.{fields_some}
use Rattle.waveform.specs.declared.Token.{Token}
use Rattle.waveform.specs.declared.Token.TheVariants as token
use Rattle.waveform.specs.declared.Whole.{Whole}
use Rattle.waveform.specs.declared.State.{State}
use Rattle.waveform.specs.declared.State.TheVariants.{Heading, Opened, Jobbed, Going, Marked, Halfway, Dead}
use Rattle.waveform.specs.Runs.{head_count, heads_from, body, told, Run}
use Rattle.waveform.specs.Reading.{alone, ran, headed, opens, goes_to, next, come, done, Writable}
use Rattle.waveform.specs.Stretches.{ended_by, stretches}
use Rattle.waveform.specs.Bytes.{bang, quote, head_lines, written, says}
use Rattle.waveform.specs.Texts.{as_text, lines_in, text_of, Begins, is_dead, is_nothing, end_in, start_by, ends_one, Reading, reading, line_read, end_read, judge, judged, Well, Wrong, Outcome}
use Rattle.waveform.proofs.Written.{passed, come_append, end_of, told_read, ends_done}
use Rattle.waveform.proofs.Read.{dead_stays, read_told}
use Rattle.waveform.proofs.Live.{come_sound, goes_on}
use Rattle.waveform.proofs.Bytes.{Plain, says_written, written_says}
use Rattle.waveform.proofs.Plain.{told_plain, says_writable}

-- DEAD OR NOT
dead_is : (s : State) → is_dead s ≡ true → s ≡ Dead
dead_is (Heading k) e = absurd (false_not_true e)
dead_is (Opened t) e = absurd (false_not_true e)
dead_is (Jobbed t j) e = absurd (false_not_true e)
dead_is (Going t j f) e = absurd (false_not_true e)
dead_is (Marked t j f) e = absurd (false_not_true e)
dead_is (Halfway t j f) e = absurd (false_not_true e)
dead_is Dead e = refl

-- lines that another reading says nothing of end every text
other_dead : (s : State) → next s token.Other ≡ Dead
other_dead (Heading k) = refl
other_dead (Opened t) = refl
other_dead (Jobbed t j) = refl
other_dead (Going t j f) = refl
other_dead (Marked t j f) = refl
other_dead (Halfway t j f) = refl
other_dead Dead = refl

pub done_alive : (s : State) → done s ≡ true → is_dead s ≡ false
done_alive (Heading k) e = refl
done_alive (Opened t) e = refl
done_alive (Jobbed t j) e = refl
done_alive (Going t j f) e = refl
done_alive (Marked t j f) e = refl
done_alive (Halfway t j f) e = refl
done_alive Dead e = absurd (false_not_true e)

-- what goes on to a state that is not dead was not dead
pub alive_before : (s : State) (xs : List Token) → is_dead (come s xs) ≡ false → is_dead s ≡ false
alive_before s xs e = go (is_dead s) refl
  where
    go : (b : Bool) → is_dead s ≡ b → is_dead s ≡ false
    go true h = absurd (false_not_true (sym e ∙ ap is_dead (ap (λ k. come k xs) (dead_is s h) ∙ dead_stays xs)))
    go false h = h

-- a line after which the text can go on was written as it says
line_written : (s : State) (l : List ℕ) → is_dead (next s (says l)) ≡ false → written (says l) ≡ l
line_written s l e = written_says l (λ o. false_not_true (sym e ∙ ap is_dead (ap (next s) o ∙ other_dead s)))

lines_written : (s : State) (ls : List (List ℕ)) → is_dead (come s (map says ls)) ≡ false → map written (map says ls) ≡ ls
unfolding come
lines_written s [] e = refl
lines_written s (l ∷ ls) e =
    λ i. line_written s l (alive_before (next s (says l)) (map says ls) e) i ∷ lines_written (next s (says l)) ls e i

each_writable : (ls : List (List ℕ)) → Each Writable (map says ls)
each_writable [] = tt
each_writable (l ∷ ls) = (says_writable l, each_writable ls)

pub said_again : (xs : List Token) → Each Plain xs → map says (map written xs) ≡ xs
said_again [] h = refl
said_again (x ∷ xs) h = λ i. says_written x h.0 i ∷ said_again xs h.1 i

-- WHAT EACH LINE TELLS BESIDE: past the first mark no line tells a start, and a mark that goes on ends one stretch
abbrev StartsNoMore : State → Type 0
StartsNoMore (Heading k) = ⊥
StartsNoMore (Opened t) = Unit {0}
StartsNoMore (Jobbed t j) = Unit {0}
StartsNoMore (Going t j f) = Unit {0}
StartsNoMore (Marked t j f) = Unit {0}
StartsNoMore (Halfway t j f) = Unit {0}
StartsNoMore Dead = Unit {0}

-- a state that a test may leave dead
by_test : (b : Bool) (s : State) (start : ℕ) → StartsNoMore s × (start_by s start ≡ start) → StartsNoMore (cond b s Dead) × (start_by (cond b s Dead) start ≡ start)
by_test true s start h = h
by_test false s start h = (tt, refl)

starts_no_more : (s : State) (x : Token) (start : ℕ) → StartsNoMore s → StartsNoMore (next s x) × (start_by (next s x) start ≡ start)
starts_no_more (Heading k) x start h = absurd h
starts_no_more (Opened t) (token.Head i) start h = (tt, refl)
starts_no_more (Opened t) (token.Mark u) start h = (tt, refl)
starts_no_more (Opened t) (token.Job j) start h = by_test (ltb t last_instant) (Jobbed t j) start (tt, refl)
starts_no_more (Opened t) (token.Feed f) start h = (tt, refl)
starts_no_more (Opened t) token.Other start h = (tt, refl)
starts_no_more (Jobbed t j) (token.Head i) start h = (tt, refl)
starts_no_more (Jobbed t j) (token.Mark u) start h = (tt, refl)
starts_no_more (Jobbed t j) (token.Job i) start h = (tt, refl)
starts_no_more (Jobbed t j) (token.Feed f) start h = by_test (alone j f && leb f most_feeds) (Going t j f) start (tt, refl)
starts_no_more (Jobbed t j) token.Other start h = (tt, refl)
starts_no_more (Going t j f) (token.Head i) start h = (tt, refl)
starts_no_more (Going t j f) (token.Mark u) start h = by_test (ltb t u && leb u last_instant) (Marked u j f) start (tt, refl)
starts_no_more (Going t j f) (token.Job i) start h = (tt, refl)
starts_no_more (Going t j f) (token.Feed g) start h = (tt, refl)
starts_no_more (Going t j f) token.Other start h = (tt, refl)
starts_no_more (Marked t j f) (token.Head i) start h = (tt, refl)
starts_no_more (Marked t j f) (token.Mark u) start h = (tt, refl)
starts_no_more (Marked t j f) (token.Job i) start h = by_test (ltb t last_instant && not (eqb i j)) (Halfway t i f) start (tt, refl)
starts_no_more (Marked t j f) (token.Feed g) start h =
    by_test (ltb t last_instant) (cond (not (eqb g f)) (ran t j g) Dead) start (by_test (not (eqb g f)) (ran t j g) start (by_test (alone j g && leb g most_feeds) (Going t j g) start (tt, refl)))
starts_no_more (Marked t j f) token.Other start h = (tt, refl)
starts_no_more (Halfway t j f) (token.Head i) start h = (tt, refl)
starts_no_more (Halfway t j f) (token.Mark u) start h = by_test (alone j f) (goes_to t j f u) start (by_test (ltb t u && leb u last_instant) (Marked u j f) start (tt, refl))
starts_no_more (Halfway t j f) (token.Job i) start h = (tt, refl)
starts_no_more (Halfway t j f) (token.Feed g) start h = by_test (not (eqb g f)) (ran t j g) start (by_test (alone j g && leb g most_feeds) (Going t j g) start (tt, refl))
starts_no_more (Halfway t j f) token.Other start h = (tt, refl)
starts_no_more Dead x start h = (tt, refl)

-- a state that a test may leave dead ends a stretch as the state does, where it is not dead
ends_test : (b : Bool) (s : State) (n : ℕ) → (is_dead s ≡ false → ends_one s ≡ n) → is_dead (cond b s Dead) ≡ false → ends_one (cond b s Dead) ≡ n
ends_test true s n h e = h e
ends_test false s n h e = absurd (false_not_true (sym e))

pub ends_as_said : (s : State) (x : Token) → is_dead (next s x) ≡ false → ends_one (next s x) ≡ length (ended_by s x)
ends_as_said (Heading k) (token.Head i) e = ends_test (eqb i k && ltb k head_count) (Heading (suc k)) 0 (λ d. refl) e
ends_as_said (Heading k) (token.Mark t) e = ends_test (eqb k head_count && leb t last_instant) (Opened t) 0 (λ d. refl) e
ends_as_said (Heading k) (token.Job j) e = refl
ends_as_said (Heading k) (token.Feed f) e = refl
ends_as_said (Heading k) token.Other e = refl
ends_as_said (Opened t) (token.Head i) e = refl
ends_as_said (Opened t) (token.Mark u) e = refl
ends_as_said (Opened t) (token.Job j) e = ends_test (ltb t last_instant) (Jobbed t j) 0 (λ d. refl) e
ends_as_said (Opened t) (token.Feed f) e = refl
ends_as_said (Opened t) token.Other e = refl
ends_as_said (Jobbed t j) (token.Head i) e = refl
ends_as_said (Jobbed t j) (token.Mark u) e = refl
ends_as_said (Jobbed t j) (token.Job i) e = refl
ends_as_said (Jobbed t j) (token.Feed f) e = ends_test (alone j f && leb f most_feeds) (Going t j f) 0 (λ d. refl) e
ends_as_said (Jobbed t j) token.Other e = refl
ends_as_said (Going t j f) (token.Head i) e = refl
ends_as_said (Going t j f) (token.Mark u) e = ends_test (ltb t u && leb u last_instant) (Marked u j f) 1 (λ d. refl) e
ends_as_said (Going t j f) (token.Job i) e = refl
ends_as_said (Going t j f) (token.Feed g) e = refl
ends_as_said (Going t j f) token.Other e = refl
ends_as_said (Marked t j f) (token.Head i) e = refl
ends_as_said (Marked t j f) (token.Mark u) e = refl
ends_as_said (Marked t j f) (token.Job i) e = ends_test (ltb t last_instant && not (eqb i j)) (Halfway t i f) 0 (λ d. refl) e
ends_as_said (Marked t j f) (token.Feed g) e =
    ends_test (ltb t last_instant) (cond (not (eqb g f)) (ran t j g) Dead) 0 (ends_test (not (eqb g f)) (ran t j g) 0 (ends_test (alone j g && leb g most_feeds) (Going t j g) 0 (λ d. refl))) e
ends_as_said (Marked t j f) token.Other e = refl
ends_as_said (Halfway t j f) (token.Head i) e = refl
ends_as_said (Halfway t j f) (token.Mark u) e = ends_test (alone j f) (goes_to t j f u) 1 (ends_test (ltb t u && leb u last_instant) (Marked u j f) 1 (λ d. refl)) e
ends_as_said (Halfway t j f) (token.Job i) e = refl
ends_as_said (Halfway t j f) (token.Feed g) e = ends_test (not (eqb g f)) (ran t j g) 0 (ends_test (alone j g && leb g most_feeds) (Going t j g) 0 (λ d. refl)) e
ends_as_said (Halfway t j f) token.Other e = refl
ends_as_said Dead x e = refl

-- SOME RUN'S LINES BEGIN SO, exactly where the text can go on
pub alive_begins : (ls : List (List ℕ)) → is_dead (come (Heading 0) (map says ls)) ≡ false → Begins ls
alive_begins ls e =
    let s = come (Heading 0) (map says ls) in
    let g = goes_on s (come_sound (Heading 0) (map says ls) (omega arith)) (λ d. false_not_true (sym e ∙ ap is_dead d)) in
    let ends : done (come (Heading 0) (map says ls ++ g.more)) ≡ true = ap done (come_append (Heading 0) (map says ls) g.more) ∙ g.ends in
    let (t, ws, same, r) = read_told (map says ls ++ g.more) ends (each_append Writable (map says ls) g.more (each_writable ls) g.each) in
    record {
      start = t;
      names = ws;
      run = r;
      more = map written g.more;
      lines = ap (map written) (sym same) ∙ map-append written (map says ls) g.more ∙ ap (◌++ map written g.more) (lines_written (Heading 0) ls e);
    }

pub begins_alive : (ls : List (List ℕ)) → Begins ls → is_dead (come (Heading 0) (map says ls)) ≡ false
begins_alive ls b =
    let t = b.start in
    let ws = b.names in
    let tokens : map says ls ++ map says b.more ≡ told t ws
    = sym (map-append says ls b.more) ∙ ap (map says) (sym b.lines) ∙ said_again (told t ws) (told_plain t ws b.run) in
    let read : come (come (Heading 0) (map says ls)) (map says b.more) ≡ end_of t ws
    = sym (come_append (Heading 0) (map says ls) (map says b.more)) ∙ ap (come (Heading 0)) tokens ∙ told_read t ws b.run in
    alive_before (come (Heading 0) (map says ls)) (map says b.more) (ap is_dead read ∙ done_alive (end_of t ws) (ends_done t ws))

-- THE PARTS OF A TEXT: its whole lines, and what follows the last newline
abbrev pub whole : List (List ℕ) → List (List ℕ)
whole [] = []
whole (r ∷ []) = []
whole (l ∷ m ∷ ls) = l ∷ whole (m ∷ ls)

-- a line without a newline
abbrev pub Clean : List ℕ → Type 0
Clean l = Each (λ b. eqb b newline ≡ false) l

-- such a line with its newline is the first part
line_parted : (l s : List ℕ) → Clean l → lines_of (l ++ (newline ∷ s)) ≡ l ∷ lines_of s
unfolding parted
line_parted [] s c = refl
line_parted (b ∷ l) s c =
    ap (λ x. cond x ([] ∷ parted newline (l ++ (newline ∷ s))) (grown b (parted newline (l ++ (newline ∷ s))))) c.0 ∙ ap (grown b) (line_parted l s c.1)

pub text_parted : (ls : List (List ℕ)) → Each Clean ls → lines_of (as_text ls) ≡ ls ++ ([] ∷ [])
unfolding as_text parted
text_parted [] c = refl
text_parted (l ∷ ls) c = line_parted l (as_text ls) c.0 ∙ ap (l ∷◌) (text_parted ls c.1)

-- and the other way round
abbrev pub rejoined : List (List ℕ) → List ℕ
rejoined [] = []
rejoined (r ∷ []) = r
rejoined (l ∷ m ∷ ls) = l ++ (newline ∷ rejoined (m ∷ ls))

rejoined_grown : (b : ℕ) (ls : List (List ℕ)) → rejoined (grown b ls) ≡ b ∷ rejoined ls
rejoined_grown b [] = refl
rejoined_grown b (l ∷ []) = refl
rejoined_grown b (l ∷ m ∷ ls) = refl

-- there is always a part
none_never : (s : List ℕ) → lines_of s ≡ [] → ⊥
none_never s e = let (f, fs, same) = fields_some newline s in let z : ◌≡◌ {A = ℕ} 0 1 = cc in omega arith

pub parted_rejoined : (s : List ℕ) → rejoined (lines_of s) ≡ s
unfolding parted
parted_rejoined [] = refl
parted_rejoined (b ∷ s) = go (eqb b newline) refl (parted newline s) refl (parted_rejoined s)
  where
    go : (x : Bool) → eqb b newline ≡ x → (ps : List (List ℕ)) → parted newline s ≡ ps → rejoined (parted newline s) ≡ s
        → rejoined (cond x ([] ∷ parted newline s) (grown b (parted newline s))) ≡ b ∷ s
    go true e [] h ih = absurd (none_never s h)
    go true e (p ∷ ps) h ih = ap (λ qs. rejoined ([] ∷ qs)) h ∙ (λ i. sym (eqb-true b newline e) i ∷ (ap rejoined (sym h) ∙ ih) i)
    go false e ps h ih = rejoined_grown b (parted newline s) ∙ ap (b ∷◌) ih

rejoined_whole : (ls : List (List ℕ)) → rejoined (ls ++ ([] ∷ [])) ≡ as_text ls
unfolding as_text
rejoined_whole [] = refl
rejoined_whole (l ∷ []) = refl
rejoined_whole (l ∷ m ∷ ls) = ap (λ s. l ++ (newline ∷ s)) (rejoined_whole (m ∷ ls))

-- no line of a run has a newline in it
digits_clean : (base : ℕ) (s : List ℕ) → all_digits base s ≡ true → Clean s
unfolding all_digits
digits_clean base [] h = tt
digits_clean base (b ∷ s) h =
    let t = both (is_digit base b) (all_digits base s) h in
    (ne_eqb b newline (λ e. omega (arith, e, (digit_is base b t.0).0)), digits_clean base s t.1)

heads_clean : Each Clean head_lines
unfolding every
heads_clean =
    each_of_every (every (λ b. not (eqb b newline))) Clean (λ l. each_of_every (λ b. not (eqb b newline)) (λ b. eqb b newline ≡ false) (λ b e. not-true _ e) l) head_lines refl

one_clean : (ls : List (List ℕ)) (k : ℕ) → Each Clean ls → Clean (get_or ls k [])
one_clean [] k h = tt
one_clean (l ∷ ls) zero h = h.0
one_clean (l ∷ ls) (suc k) h = one_clean ls k h.1

written_clean : (x : Token) → Clean (written x)
written_clean (token.Head k) = one_clean head_lines k heads_clean
written_clean (token.Mark t) = (refl, digits_clean 10 (digits t) (digits_all 10 decimal t))
written_clean (token.Job n) = (refl, each_append (λ b. eqb b newline ≡ false) (bits n) (space ∷ bang ∷ []) (digits_clean 2 (bits n) (digits_all 2 binary n)) (refl, (refl, tt)))
written_clean (token.Feed n) = (refl, each_append (λ b. eqb b newline ≡ false) (bits n) (space ∷ quote ∷ []) (digits_clean 2 (bits n) (digits_all 2 binary n)) (refl, (refl, tt)))
written_clean token.Other = tt

pub all_clean : (xs : List Token) → Each Clean (map written xs)
all_clean [] = tt
all_clean (x ∷ xs) = (written_clean x, all_clean xs)

-- A TEXT OF A RUN IS JUDGED WELL
-- what is read of lines that end well
abbrev read_all : Reading → List Token → Reading
read_all r [] = r
read_all r (x ∷ xs) = read_all (line_read r (next r.state x)) xs

read_all_state : (r : Reading) (xs : List Token) → (read_all r xs).state ≡ come r.state xs
unfolding come
read_all_state r [] = refl
read_all_state r (x ∷ xs) = read_all_state (line_read r (next r.state x)) xs

judged_on : (r : Reading) (xs : List Token) → Each Plain xs → done (come r.state xs) ≡ true → judge r (map written xs ++ ([] ∷ [])) ≡ end_read (read_all r xs)
unfolding judge come
judged_on r [] p e = refl
judged_on r (x ∷ xs) p e = go xs (judged_on (line_read r (next r.state x)) xs p.1 e)
  where
    same : next r.state (says (written x)) ≡ next r.state x
    same = ap (next r.state) (says_written x p.0)

    alive : is_dead (next r.state x) ≡ false
    alive = alive_before (next r.state x) xs (done_alive (come (next r.state x) xs) e)

    on : (ls : List (List ℕ)) → cond (is_dead (next r.state (says (written x)))) (Wrong (suc r.lines)) (judge (line_read r (next r.state (says (written x)))) ls) ≡ judge (line_read r (next r.state x)) ls
    on ls =
        ap (λ n. cond (is_dead n) (Wrong (suc r.lines)) (judge (line_read r n) ls)) same
        ∙ ap (λ b. cond b (Wrong (suc r.lines)) (judge (line_read r (next r.state x)) ls)) alive

    go : (ys : List Token) → judge (line_read r (next r.state x)) (map written ys ++ ([] ∷ [])) ≡ end_read (read_all (line_read r (next r.state x)) xs)
        → judge r (written x ∷ (map written ys ++ ([] ∷ []))) ≡ end_read (read_all (line_read r (next r.state x)) xs)
    go [] ih = on ([] ∷ []) ∙ ih
    go (y ∷ ys) ih = on (written y ∷ (map written ys ++ ([] ∷ []))) ∙ ih

-- the start is told by the first mark, and stays
heads_read : (m k n : ℕ) (start ended : ℕ) (xs : List Token) → k + m ≡ head_count
    → read_all (reading (Heading k) n start ended) (heads_from m k ++ xs) ≡ read_all (reading (Heading head_count) (n + m) start ended) xs
unfolding heads_from
heads_read zero k n start ended xs h =
    let there : k ≡ head_count = omega (arith, h) in
    let here : n ≡ n + 0 = omega arith in
    λ i. read_all (reading (Heading (there i)) (here i) start ended) xs
heads_read (suc m) k n start ended xs h =
    let on : headed k k ≡ Heading (suc k) = passed (eqb k k && ltb k head_count) (Heading (suc k)) Dead (both_made (eqb k k) (ltb k head_count) (eq-eqb k k refl) (lt-ltb k head_count (omega (arith, h)))) in
    let more : ended + 0 ≡ ended = omega arith in
    let far : suc n + m ≡ n + suc m = omega arith in
    ap (λ s. read_all (line_read (reading (Heading k) n start ended) s) (heads_from m (suc k) ++ xs)) on
    ∙ ap (λ e. read_all (reading (Heading (suc k)) (suc n) start e) (heads_from m (suc k) ++ xs)) more
    ∙ heads_read m (suc k) (suc n) start ended xs (omega (arith, h))
    ∙ ap (λ j. read_all (reading (Heading head_count) j start ended) xs) far

-- what is known of the start once a run is open, whatever comes
started : (r : Reading) (xs : List Token) → StartsNoMore r.state → (read_all r xs).start ≡ r.start
started r [] h = refl
started r (x ∷ xs) h =
    let (on, same) = starts_no_more r.state x r.start h in
    started (line_read r (next r.state x)) xs on ∙ same

-- each mark that goes on ends one stretch
ended_all : (r : Reading) (xs : List Token) → is_dead (come r.state xs) ≡ false → (read_all r xs).ended ≡ r.ended + length (stretches r.state xs)
unfolding come stretches
ended_all r [] e = omega arith
ended_all r (x ∷ xs) e =
    let n = next r.state x in
    ended_all (line_read r (next r.state x)) xs e
    ∙ omega (arith, length-append (ended_by r.state x) (stretches (next r.state x) xs), ends_as_said r.state x (alive_before (next r.state x) xs e))

-- the start and the end of a run
run_start : (t : ℕ) (ws : List Who) → Run t ws → (read_all (reading (Heading 0) 0 0 0) (told t ws)).start ≡ t
unfolding told
run_start t ws r =
    let on : opens head_count t ≡ Opened t = passed (eqb head_count head_count && leb t last_instant) (Opened t) Dead (both_made true (leb t last_instant) refl (le-leb t last_instant (omega (arith, r.within)))) in
    ap (λ k. k.start) (heads_read head_count 0 0 0 0 (token.Mark t ∷ body t ws) refl)
    ∙ ap (λ s. (read_all (line_read (reading (Heading head_count) (0 + head_count) 0 0) s) (body t ws)).start) on
    ∙ started (line_read (reading (Heading head_count) (0 + head_count) 0 0) (Opened t)) (body t ws) tt

pub end_is : (t : ℕ) (ws : List Who) → end_in (end_of t ws) ≡ t + length ws
end_is t [] = omega arith
end_is t (w ∷ ws) = omega arith

pub text_judged_well : (t : ℕ) (ws : List Who) → Run t ws → judged (text_of t ws) ≡ Well t (t + length ws) (length (stretches (Heading 0) (told t ws)))
text_judged_well t ws r =
    let first = reading (Heading 0) 0 0 0 in
    let all = read_all (reading (Heading 0) 0 0 0) (told t ws) in
    let read = told_read t ws r in
    let state : (read_all (reading (Heading 0) 0 0 0) (told t ws)).state ≡ end_of t ws = read_all_state (reading (Heading 0) 0 0 0) (told t ws) ∙ read in
    let ends : done (come (Heading 0) (told t ws)) ≡ true = ap done read ∙ ends_done t ws in
    let start : (read_all (reading (Heading 0) 0 0 0) (told t ws)).start ≡ t = run_start t ws r in
    let many : (read_all (reading (Heading 0) 0 0 0) (told t ws)).ended ≡ length (stretches (Heading 0) (told t ws)) = ended_all (reading (Heading 0) 0 0 0) (told t ws) (done_alive (come (Heading 0) (told t ws)) ends) ∙ omega arith in
    ap (judge (reading (Heading 0) 0 0 0)) (text_parted (lines_in t ws) (all_clean (told t ws)))
    ∙ judged_on (reading (Heading 0) 0 0 0) (told t ws) (told_plain t ws r) ends
    ∙ ap (λ b. cond b (Well all.start (end_in all.state) all.ended) (Wrong (suc all.lines))) (ap done state ∙ ends_done t ws)
    ∙ (λ i. Well (start i) ((ap end_in state ∙ end_is t ws) i) (many i))

-- WHAT IS JUDGED WELL is whole lines that are read to an end, and nothing behind them
record WellFrom (r : Reading) (ps : List (List ℕ)) : Type 0 where
  lines : List (List ℕ)
  parts : ps ≡ lines ++ ([] ∷ [])
  ends : done (come r.state (map says lines)) ≡ true

-- what is made of a text, by its parts; zeros where it has none
abbrev whole_in : Outcome → Whole
whole_in (Ok w) = w
whole_in (Err l) = record { start = 0; end = 0; stretches = 0 }

abbrev line_in : Outcome → ℕ
line_in (Ok w) = 0
line_in (Err l) = l.0

pub wrong_not_well : (n a b c : ℕ) → Wrong n ≡ Well a b c → ⊥
wrong_not_well n a b c h = let z : ◌≡◌ {A = ℕ} 0 1 = cc in omega arith

well_parts : (r : Reading) (ps : List (List ℕ)) (a b c : ℕ) → judge r ps ≡ Well a b c → WellFrom r ps
unfolding judge come
well_parts r [] a b c h = absurd (wrong_not_well (suc r.lines) a b c h)
well_parts r (l ∷ []) a b c h = go l (done r.state) refl h
  where
    go : (m : List ℕ) (x : Bool) → done r.state ≡ x → cond (is_nothing m) (cond x (Well r.start (end_in r.state) r.ended) (Wrong (suc r.lines))) (Wrong (suc r.lines)) ≡ Well a b c → WellFrom r (m ∷ [])
    go [] true d k = record { lines = []; parts = refl; ends = d }
    go [] false d k = absurd (wrong_not_well (suc r.lines) a b c k)
    go (y ∷ m) x d k = absurd (wrong_not_well (suc r.lines) a b c k)
well_parts r (l ∷ m ∷ ls) a b c h = go (is_dead (next r.state (says l))) h (well_parts (line_read r (next r.state (says l))) (m ∷ ls) a b c)
  where
    go : (x : Bool) → cond x (Wrong (suc r.lines)) (judge (line_read r (next r.state (says l))) (m ∷ ls)) ≡ Well a b c
        → (judge (line_read r (next r.state (says l))) (m ∷ ls) ≡ Well a b c → WellFrom (line_read r (next r.state (says l))) (m ∷ ls)) → WellFrom r (l ∷ m ∷ ls)
    go true k ih = absurd (wrong_not_well (suc r.lines) a b c k)
    go false k ih = let w = ih k in record { lines = l ∷ w.lines; parts = ap (l ∷◌) w.parts; ends = w.ends }

-- so it is the text of a run, with that start, that end and so many stretches
pub record OfARun (s : List ℕ) (start end many : ℕ) : Type 0 where
  pub names : List Who
  pub run : Run start names
  pub text : s ≡ text_of start names
  pub last : end ≡ start + length names
  pub count : many ≡ length (stretches (Heading 0) (told start names))

pub well_is_a_run : (s : List ℕ) (a b c : ℕ) → judged s ≡ Well a b c → OfARun s a b c
well_is_a_run s a b c h =
    let w = well_parts (reading (Heading 0) 0 0 0) (lines_of s) a b c h in
    let (t, ws, same, r) = read_told (map says w.lines) w.ends (each_writable w.lines) in
    let lines : w.lines ≡ lines_in t ws = sym (lines_written (Heading 0) w.lines (done_alive (come (Heading 0) (map says w.lines)) w.ends)) ∙ ap (map written) same in
    let text : s ≡ text_of t ws = sym (parted_rejoined s) ∙ ap rejoined w.parts ∙ rejoined_whole w.lines ∙ ap as_text lines in
    let told_as : Well a b c ≡ Well t (t + length ws) (length (stretches (Heading 0) (told t ws))) = sym h ∙ ap judged text ∙ text_judged_well t ws r in
    let start : t ≡ a = sym (ap (λ o. (whole_in o).start) told_as) in
    let end : b ≡ t + length ws = ap (λ o. (whole_in o).end) told_as in
    let many : c ≡ length (stretches (Heading 0) (told t ws)) = ap (λ o. (whole_in o).stretches) told_as in
    record {
      names = ws;
      run = subst (λ n. Run n ws) start r;
      text = text ∙ ap (λ n. text_of n ws) start;
      last = end ∙ ap (◌+ length ws) start;
      count = many ∙ ap (λ n. length (stretches (Heading 0) (told n ws))) start;
    }

-- WHERE A TEXT IS WRONG: so many whole lines go well, and then the next does not, or there is none and the text is not done
record WrongFrom (r : Reading) (ps : List (List ℕ)) (n : ℕ) : Type 0 where
  good : ℕ
  line : n ≡ suc (r.lines + good)
  few : good ≤ length (whole ps)
  alive : is_dead (come r.state (map says (take good (whole ps)))) ≡ false
  dead : good < length (whole ps) → is_dead (come r.state (map says (take (suc good) (whole ps)))) ≡ true

pub wrong_same : (m n : ℕ) → Wrong m ≡ Wrong n → m ≡ n
wrong_same m n e = ap line_in e

wrong_parts : (r : Reading) (ps : List (List ℕ)) (n : ℕ) → is_dead r.state ≡ false → judge r ps ≡ Wrong n → WrongFrom r ps n
unfolding judge come
wrong_parts r [] n a h =
    record { good = 0; line = sym (wrong_same (suc r.lines) n h) ∙ omega arith; few = omega arith; alive = a; dead = λ l. absurd (omega (arith, l)) }
wrong_parts r (l ∷ []) n a h = go l (done r.state) h
  where
    here : Wrong (suc r.lines) ≡ Wrong n → WrongFrom r (l ∷ []) n
    here k = record { good = 0; line = sym (wrong_same (suc r.lines) n k) ∙ omega arith; few = omega arith; alive = a; dead = λ q. absurd (omega (arith, q)) }

    go : (m : List ℕ) (x : Bool) → cond (is_nothing m) (cond x (Well r.start (end_in r.state) r.ended) (Wrong (suc r.lines))) (Wrong (suc r.lines)) ≡ Wrong n → WrongFrom r (l ∷ []) n
    go [] true k = absurd (wrong_not_well n r.start (end_in r.state) r.ended (sym k))
    go [] false k = here k
    go (y ∷ m) x k = here k
wrong_parts r (l ∷ m ∷ ls) n a h = go (is_dead (next r.state (says l))) refl h (λ d. wrong_parts (line_read r (next r.state (says l))) (m ∷ ls) n d)
  where
    go : (b : Bool) → is_dead (next r.state (says l)) ≡ b → cond b (Wrong (suc r.lines)) (judge (line_read r (next r.state (says l))) (m ∷ ls)) ≡ Wrong n
        → (is_dead (next r.state (says l)) ≡ false → judge (line_read r (next r.state (says l))) (m ∷ ls) ≡ Wrong n → WrongFrom (line_read r (next r.state (says l))) (m ∷ ls) n)
        → WrongFrom r (l ∷ m ∷ ls) n
    go true e c ih = record { good = 0; line = sym (wrong_same (suc r.lines) n c) ∙ omega arith; few = omega arith; alive = a; dead = λ q. e }
    go false e c ih =
        let w = ih e c in
        record { good = suc w.good; line = w.line ∙ omega arith; few = omega (arith, w.few); alive = w.alive; dead = λ q. w.dead (omega (arith, q)) }

-- THE LINE OF A TEXT THAT IS NOT OF A RUN: it is the least number of lines that no run's lines begin with; and where all whole lines can
-- begin one, the text is not complete, and it is one past them
pub record NotOfARun (s : List ℕ) (n : ℕ) : Type 0 where
  pub good : ℕ
  pub line : n ≡ suc good
  pub before : Begins (take good (whole (lines_of s)))
  pub few : good ≤ length (whole (lines_of s))
  pub first : good < length (whole (lines_of s)) → Begins (take (suc good) (whole (lines_of s))) → ⊥
  pub incomplete : (t : ℕ) (ws : List Who) → Run t ws → s ≡ text_of t ws → ⊥

pub wrong_is_not_of_a_run : (s : List ℕ) (n : ℕ) → judged s ≡ Wrong n → NotOfARun s n
wrong_is_not_of_a_run s n h =
    let w = wrong_parts (reading (Heading 0) 0 0 0) (lines_of s) n refl h in
    record {
      good = w.good;
      line = w.line ∙ ap suc (omega arith);
      before = alive_begins (take w.good (whole (lines_of s))) w.alive;
      few = w.few;
      first = λ l b. false_not_true (sym (begins_alive (take (suc w.good) (whole (lines_of s))) b) ∙ w.dead l);
      incomplete = λ t ws r e. wrong_not_well n t (t + length ws) (length (stretches (Heading 0) (told t ws))) (sym h ∙ ap judged e ∙ text_judged_well t ws r);
    }
