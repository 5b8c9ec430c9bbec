-- The value of a few digits.
use Rattle.std.proofs.Common.{ℕ, List, length, ◌≤◌, ◌<◌, ◌^◌}
use Rattle.std.specs.Str.Parse.{AllDigits, digits_value}
use Rattle.std.proofs.lemmas.Str.Parse.{digits_value_short, numerals_by_value, tells_digits}

-- up to 18 digits write a number below 10 ^ 18
pub value_of_18_digits : (ds : List ℕ) → AllDigits 10 ds → length ds ≤ 18 → digits_value 10 ds < 10 ^ 18
value_of_18_digits ds = digits_value_short (numerals_by_value (AllDigits 10) tells_digits) ds 18
