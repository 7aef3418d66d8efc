-- `feeds::Feeds::owing` meets its contract: the feed's own place is changed.
use mathlib.Core.Path.{◌≡◌, sym, ap, ◌∙◌}
use Prim.Native.Nat.{◌-◌}
use native.Mathlib.Omega.{arith}
use lib.ListN.{length, get_or, set, length-set}
use lib.Seq.{get_or-take}
use Rattle.lists.specs.Lists.{filled}
use Rattle.lists.proofs.Places.{filled_set}
use Rattle.feeds.specs.Feeds.{most_feeds, no_feed, in_use, owing, feeds_of}
use Rattle.feeds.proofs.Passing.{tidy_many}
use Rattle.feeds.proofs.Feeds.owing.Goals as goal

pub returns : goal.returns
returns c =
    let self = c.args.self in
    let i = c.args.position - 1 in
    let new = owing c.args.owes (get_or self.feeds i no_feed) in
    let tidy = c.requires.0 in
    let many : length (in_use self) ≡ self.count = tidy_many self tidy in
    let same : get_or self.feeds i no_feed ≡ get_or (in_use self) i no_feed = sym (get_or-take self.count self.feeds i no_feed (omega arith)) in
    let places : set self.feeds i new ≡ filled most_feeds no_feed (set (in_use self) i new)
    = ap (λ s. set s.feeds i new) tidy.filled ∙ filled_set most_feeds no_feed (in_use self) i new (omega arith) in
    let count : self.count ≡ length (set (in_use self) i new) = sym (length-set (in_use self) i new ∙ many) in
    (λ t. record { count = count t; feeds = places t })
    ∙ ap (λ f. feeds_of (set (in_use self) i (owing c.args.owes f))) same
