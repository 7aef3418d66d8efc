-- `text::read_in` meets its contract: the bytes passed are digits, and count n. A number of so many digits fits.
use mathlib.Core.Path.{◌≡◌}
use Prim.Native.Nat.{◌^◌, ◌<◌}
use lib.ListN.{drop}
use Rattle.text.specs.Numbers.{all_digits, counted}
use Rattle.text.proofs.read_in.Given as goal

abbrev pub invariant-loop-b : goal.invariant-loop-b
invariant-loop-b l = record {
  digits : all_digits l.base l.s ≡ all_digits l.base (drop l.b-index l.s);
  count : counted l.base 0 l.s ≡ counted l.base l.n (drop l.b-index l.s);
  below : l.n < l.base ^ l.b-index;
}
