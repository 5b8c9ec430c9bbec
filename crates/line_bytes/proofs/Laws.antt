-- Laws of the line: its numbers are those that the library writes, and are read back; and how long they are.
-- Assumes nothing.
use Rattle.std.proofs.Common.{◌≡◌, ℕ, zero, suc, ◌+◌, ◌*◌, ◌/◌, ◌%◌, ◌^◌, ◌<◌, ◌≤◌, true, false, cond, List, [], ◌∷◌, ◌++◌, length, length-append, refl, sym, ap, ◌∙◌, append_assoc, append-nil, take, drop, length-take-le, rules, arith}
use lib.Dec.{ltb}
use Rattle.std.specs.Fmt
use Rattle.std.specs.Str.{all_ascii_digits}
use Rattle.std.proofs.lemmas.Fmt.{AppendsLastDigit, decimal_from_appends, length-decimal-le, digits_value-decimal}
use Rattle.std.proofs.lemmas.Str.Parse.{IsNumeralModel, numerals_by_fold}
use lib.Seq.{take-length}
use Rattle.std.proofs.Math.ListN.{drop_of_length-le}
use Rattle.std.proofs.lemmas.Grind.{flat_map-append}
use native.Mathlib.Nat.{pow-suc}
use Rattle.line_bytes.specs.Line.{digit, digits, read_on, decimal, field, fields}
use Rattle.line_bytes.specs.Inner.{written, Wrote}

-- a number's last digit stands behind those of its tenth
last_behind : AppendsLastDigit digits
unfolding digits
last_behind = search rules

-- one digit more to use changes nothing where the number has no more digits
pub digits_enough : (k n : ℕ) → n < 10 ^ suc k → digits (suc (suc k)) n ≡ digits (suc k) n
unfolding digits
digits_enough zero n small = last_behind.one 1 n (omega arith) ∙ sym (last_behind.one 0 n (omega arith))
digits_enough (suc k) n small =
    ap (λ (ds : List ℕ). cond (ltb n 10) (digit n ∷ []) (ds ++ (digit (n % 10) ∷ [])))
    (digits_enough k (n / 10) (omega (arith, pow-suc 10 (suc k))))

-- a number of one digit in decimal
pub one_digit : (n : ℕ) → n < 10 → decimal n ≡ digit n ∷ []
one_digit n small = last_behind.one 4 n small

-- a number of more digits in decimal: those of its tenth, and the last
pub more_digits : (n : ℕ) → 10 ≤ n → n < 65536 → decimal n ≡ decimal (n / 10) ++ (digit (n % 10) ∷ [])
more_digits n large small = rw (digits_enough 3 (n / 10) (omega arith)) (last_behind.more 4 n large)

-- such a number is one digit longer than its tenth
pub decimal_longer : (n : ℕ) → 10 ≤ n → n < 65536 → length (decimal n) ≡ length (decimal (n / 10)) + 1
decimal_longer n large small = ap length (more_digits n large small) ∙ length-append (decimal (n / 10)) (digit (n % 10) ∷ [])

-- a number in decimal is what the library writes
pub decimal_is : (n : ℕ) → n < 100000 → Fmt.decimal n ≡ decimal n
decimal_is n small = sym (decimal_from_appends digits last_behind 5 n (omega arith) (length-decimal-le 5 n (omega arith) (omega arith) (omega arith)))

-- digits are read from the left
from_left : IsNumeralModel (λ ds. all_ascii_digits ds ≡ true) (read_on 0)
unfolding read_on
from_left = numerals_by_fold _ (search rules) read_on (search rules)

-- a line's number is read back from its digits: two numbers never have the same text
pub decimal_reads_back : (n : ℕ) → n < 100000 → read_on 0 (decimal n) ≡ n
decimal_reads_back n small = rw (← decimal_is n small) (digits_value-decimal from_left n (omega arith))

-- no more digits than asked
pub few_digits : (k n : ℕ) → length (digits k n) ≤ k
unfolding digits
few_digits zero n = omega arith
few_digits (suc k) n =
    elim (ltb n 10) as (λ b. length (cond b (digit n ∷ []) (digits k (n / 10) ++ (digit (n % 10) ∷ []))) ≤ suc k) [
      | true ↦ omega arith
      | false ↦ omega (arith, length-append (digits k (n / 10)) (digit (n % 10) ∷ []), few_digits k (n / 10))
    ]

-- numbers with one more at the end
pub fields_more : (ns : List ℕ) (n : ℕ) → fields (ns ++ (n ∷ [])) ≡ fields ns ++ field n
fields_more ns n = flat_map-append field ns (n ∷ []) ∙ ap (λ (bytes : List ℕ). fields ns ++ bytes) (append-nil (field n))

-- a line's numbers take six bytes each at the most
pub few_bytes : (ns : List ℕ) → length (fields ns) ≤ 6 * length ns
few_bytes [] = omega arith
few_bytes (n ∷ ns) = omega (arith, length-append (field n) (fields ns), few_digits 5 n, few_bytes ns)

-- a text behind all that stands
pub wrote_behind : {new : List ℕ} (old text : List ℕ) → new ≡ old ++ text → Wrote (length old) text old (length new) new
unfolding written
wrote_behind {new} old text all =
    let none_behind : drop (length old + length text) old ≡ [] = drop_of_length-le old (omega arith) in
    record {
      end = ap length all ∙ length-append old text;
      leaves = all ∙ rw (take-length old, none_behind, append-nil text) refl;
    }

-- all numbers
pub fields_end :
    {at e : ℕ} (i : ℕ) (ns : List ℕ) {old mid : List ℕ} → i ≡ length ns → Wrote at (fields (take i ns)) old e mid
    → Wrote at (fields ns) old e mid
fields_end {at} {e} i ns {old} {mid} all w = rw (all, take-length ns) at w

-- a space behind a text, and a number in the library's decimal behind it
pub field_behind : {spaced text new : List ℕ} (old : List ℕ) (n : ℕ) → n < 100000 → spaced ≡ old ++ (32 ∷ []) → text ≡ Fmt.decimal n
    → new ≡ spaced ++ text → new ≡ old ++ field n
field_behind old n small space number all =
    all ∙ rw (space, number, decimal_is n small) (append_assoc old (32 ∷ []) (decimal n))

-- a word and some of the numbers leave room for the others and the line's end
pub room_behind : {text : List ℕ} (word ns : List ℕ) (i : ℕ) → i ≤ length ns → text ≡ word ++ fields (take i ns)
    → length text ≤ length word + 6 * i
room_behind word ns i within all =
    omega (arith, ap length all, length-append word (fields (take i ns)), few_bytes (take i ns), length-take-le i ns within)
