-- Ends of lines and decimal numbers, computed.
use mathlib.Core.Path.{◌≡◌, refl}
use Rattle.std.specs.Prelude.{Some, None}
use Rattle.text.specs.Text.{spelt}
use Rattle.text.specs.Numbers.{numeral_in, numeral, digits}
use Rattle.text.specs.Fields.{found_in, line_end}

-- the ends of two lines, and no third
pub ends :
    (line_end (spelt "go 0\nrun 1\n") 0 ≡ Some 4)
    × (line_end (spelt "go 0\nrun 1\n") 4 ≡ Some 4)
    × (line_end (spelt "go 0\nrun 1\n") 5 ≡ Some 10)
    × (line_end (spelt "go 0\nrun 1\n") 11 ≡ None)
    × (line_end (spelt "go 0") 0 ≡ None)
    × (line_end (spelt "") 7 ≡ None)
unfolding found_in
ends = (refl, refl, refl, refl, refl, refl)

-- in decimal
pub written :
    (digits 0 ≡ spelt "0")
    × (digits 9 ≡ spelt "9")
    × (digits 10 ≡ spelt "10")
    × (digits 4096 ≡ spelt "4096")
    × (digits 1099511627776 ≡ spelt "1099511627776")
    × (digits 18446744073709551615 ≡ spelt "18446744073709551615")
unfolding numeral numeral_in
written = (refl, refl, refl, refl, refl, refl)
