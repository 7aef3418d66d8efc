-- How the buffer fills with the list.
use mathlib.Core.Path.{◌≡◌, refl, sym, ap, ◌∙◌}
use mathlib.Core.List.{List, [], ◌∷◌, ◌++◌, append_assoc}
use Prim.Native.Nat.{ℕ, ◌+◌, ◌*◌, ◌≤◌, ◌<◌}
use native.Mathlib.Omega.{arith}
use lib.ListN.{length, get_or, take, drop}
use native.Mathlib.Numerals.{add-one}
use lib.Seq.{take_at, take-suc, drop-drop, drop_at, length-take-le}
use Rattle.jobs.specs.declared.Job.{Job}
use Rattle.jobs.specs.Jobs.{numbers_a_job, no_job}
use Rattle.listing.specs.Words.{words_of, words}

words_append : (xs ys : List Job) → words (xs ++ ys) ≡ words xs ++ words ys
words_append [] ys = refl
words_append (x ∷ xs) ys = ap (words_of x ++◌) (words_append xs ys)

words_length : (xs : List Job) → length (words xs) ≡ numbers_a_job * length xs
words_length [] = refl
words_length (x ∷ xs) = omega (arith, words_length xs)

-- the first i jobs stand in the buffer, and behind them what was there
abbrev pub written : List Job → List ℕ → ℕ → List ℕ
written js was i = words (take i js) ++ drop (numbers_a_job * i) was

module _ (js : List Job) (was is : List ℕ) (i : ℕ) (w : is ≡ written js was i) where
  words_taken : i ≤ length js → length (words (take i js)) ≡ numbers_a_job * i
  words_taken h = words_length (take i js) ∙ ap (λ n. numbers_a_job * n) (length-take-le i js h)

  -- one more is written behind them
  pub written_more : i < length js
      → take (numbers_a_job * i) is ++ (words_of (get_or js i no_job) ++ drop (numbers_a_job * i + numbers_a_job) is) ≡ written js was (i + 1)
  written_more h =
      let j = get_or js i no_job in
      let long = words_taken (omega arith) in
      let front : take (numbers_a_job * i) is ≡ words (take i js) = ap (take (numbers_a_job * i)) w ∙ take_at (words (take i js)) (drop (numbers_a_job * i) was) (numbers_a_job * i) long in
      let four : numbers_a_job * i + numbers_a_job ≡ numbers_a_job * (i + 1) = omega arith in
      let back : drop (numbers_a_job * i + numbers_a_job) is ≡ drop (numbers_a_job * (i + 1)) was =
      sym (drop-drop numbers_a_job (numbers_a_job * i) is)
      ∙ ap (λ r. drop numbers_a_job (drop (numbers_a_job * i) r)) w
      ∙ ap (drop numbers_a_job) (drop_at (words (take i js)) (drop (numbers_a_job * i) was) (numbers_a_job * i) long)
      ∙ drop-drop numbers_a_job (numbers_a_job * i) was
      ∙ ap (λ n. drop n was) four in
      let more : take (i + 1) js ≡ take i js ++ (j ∷ []) = ap (λ n. take n js) (add-one i) ∙ take-suc js i no_job h in
      (λ t. front t ++ (words_of j ++ back t))
      ∙ sym (append_assoc (words (take i js)) (words_of j) (drop (numbers_a_job * (i + 1)) was))
      ∙ ap (λ r. r ++ drop (numbers_a_job * (i + 1)) was) (sym (words_append (take i js) (j ∷ [])) ∙ ap words (sym more))
