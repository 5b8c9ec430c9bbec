-- Lines as ASCII bytes: document 01, "Pairs to try".
-- Assumes nothing.
use Rattle.std.specs.Prelude.{ℕ, zero, suc, ◌+◌, ◌*◌, ◌-◌, ◌/◌, ◌%◌, cond, List, [], ◌∷◌, ◌++◌, ltb, codes}
use Rattle.std.specs.List.{flat_map}

-- the byte of a decimal digit: 48 is `0`
abbrev pub digit : ℕ → ℕ
digit d = 48 + d

-- a number in decimal, if k digits are enough: the digits of its tenth, then the last one; no zero in front of others
unfoldable pub digits : ℕ → ℕ → List ℕ
digits zero n = []
digits (suc k) n = cond (ltb n 10) (digit n ∷ []) (digits k (n / 10) ++ (digit (n % 10) ∷ []))

-- a number below 100,000 in decimal; the numbers of a line are below 65,536
abbrev pub decimal : ℕ → List ℕ
decimal n = digits 5 n

-- the number that decimal digits stand for, read behind a number that was read before them (`decimal_reads_back` in proofs/Laws.antt)
unfoldable pub read_on : ℕ → List ℕ → ℕ
read_on m [] = m
read_on m (d ∷ ds) = read_on (m * 10 + (d - digit 0)) ds

-- a space and a number
abbrev pub field : ℕ → List ℕ
field n = 32 ∷ decimal n

-- numbers in order, a space before each
abbrev pub fields : List ℕ → List ℕ
fields ns = flat_map field ns

-- a line: a word, numbers, a newline
abbrev pub line_with : List ℕ → List ℕ → List ℕ
line_with word ns = word ++ fields ns ++ (10 ∷ [])

-- `refused`
abbrev pub refused_word : List ℕ
refused_word = codes "refused"

-- the line of a refusal: `refused` and the number, no more
abbrev pub refused_line : ℕ → List ℕ
refused_line k = line_with refused_word (k ∷ [])
