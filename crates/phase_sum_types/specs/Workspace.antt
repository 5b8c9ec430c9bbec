-- Terms in two lent workspaces: the sets in one, `words_each` words a place, the coefficients in the other, the terms in the first places of
-- both. Document 01, "Building the sum" and "Report, pick, builder"; document 02, item 6.
-- Assumes nothing.
use Rattle.std.specs.Prelude.{◌≡◌, ℕ, ◌+◌, ◌-◌, ◌*◌, ◌/◌, ◌%◌, ◌≤◌, cond, List, [], ◌∷◌, ◌++◌, map, length, take, drop, replicate, Some, None}
use Rattle.std.specs.Prelude as code
use Rattle.std.proofs.Math.Option.{Option, none, some}
use Rattle.amplitude.specs.Bits.{bit}
use Rattle.phase_sum_meaning.specs.Sets.{from}
use Rattle.phase_sum_meaning.specs.Parity.{Parity, of}
use Rattle.phase_sum_meaning.specs.Phase as phase
use Rattle.phase_sum_meaning.specs.Phase.{Term, term, rebuild}
use Rattle.phase_sum_meaning.specs.Building.{PathSum}
use Rattle.phase_sum_meaning.specs.Room.{most_variables, words_each}
use Rattle.phase_sum_words.specs.Words.{wide, sets_in}
use Rattle.phase_sum_types.specs.declared.Set.{Set}
use Rattle.phase_sum_types.specs.declared.Phase.{Phase}
use Rattle.phase_sum_types.specs.declared.Parity.{Parity as ParityWord}
use Rattle.phase_sum_types.specs.declared.Sum.{Sum}

-- the words of a set, the low variables first
abbrev pub words_of_set : Set → List ℕ
words_of_set s = s.low ∷ s.high ∷ []

-- the set that they stand for
unfoldable pub set_of : Set → ℕ
set_of s = wide (words_of_set s)

-- the sets that a slice of words holds, one behind the other
abbrev pub sets_at : List ℕ → List ℕ
sets_at ws = sets_in words_each ws

-- how many sets words have a place for
abbrev pub places_in : List ℕ → ℕ
places_in ws = length ws / words_each

-- no word stands behind the last whole set, so that the sets are all that there is to say of the words (`AnyWidth`, `injective`)
abbrev pub Whole : List ℕ → Type 0
Whole ws = length ws % words_each ≡ 0

-- whole sets, as many as another list has places
abbrev pub Level : {A : Type 0} → List ℕ → List A → Type 0
Level ws xs = length ws ≡ words_each * length xs

-- terms by their sets and coefficients
unfoldable pub zip_terms : List ℕ → List ℕ → List Term
zip_terms [] cs = []
zip_terms (s ∷ ss) [] = []
zip_terms (s ∷ ss) (c ∷ cs) = term s c ∷ zip_terms ss cs

-- the terms in the first m places, in the order in which they stand
abbrev pub held : ℕ → List ℕ → List ℕ → List Term
held m sets coeffs = zip_terms (take m sets) (take m coeffs)

-- the sets of terms
abbrev pub sets_of : List Term → List ℕ
sets_of ts = map (λ t. t.set) ts

-- the coefficients of terms
abbrev pub coeffs_of : List Term → List ℕ
coeffs_of ts = map (λ t. t.coeff) ts

-- values over the front of a workspace of which m places were in use: zeros up to m, and behind all as it was
unfoldable pub over : ℕ → List ℕ → List ℕ → List ℕ
over m xs old = xs ++ replicate (m - length xs) 0 ++ drop (length (xs ++ replicate (m - length xs) 0)) old

-- what a call leaves that was lent workspaces of which m places were in use: these terms at the front and their count, zeros up
-- to m, and behind all as it was
pub record Stored (m : ℕ) (ts : List Term) (count : ℕ) (ss cs ss' cs' : List ℕ) : Type 0 where
  pub counted : count ≡ length ts
  pub sets : ss' ≡ over m (sets_of ts) ss
  pub coeffs : cs' ≡ over m (coeffs_of ts) cs

-- terms in any order, merged into canonical form
abbrev pub merged : List Term → List Term
merged ts = (rebuild of 0 ts).terms

-- the phase that a count of terms in the workspaces stands for
abbrev pub phase_of : Phase → List ℕ → List ℕ → phase.Phase
phase_of p ss cs = record { constant = p.constant; terms = held p.count ss cs }

-- what a call leaves that was lent workspaces of which m places were in use: the phase φ
pub record Phased (φ : phase.Phase) (m : ℕ) (r : Phase) (ss cs ss' cs' : List ℕ) : Type 0 where
  pub constant : r.constant ≡ φ.constant
  pub terms : Stored m φ.terms r.count ss cs ss' cs'

-- what a call leaves that sent each term's set to a parity and merged anew
abbrev pub Rebuilt : (ℕ → Parity) → Phase → Phase → List ℕ → List ℕ → List ℕ → List ℕ → Type 0
Rebuilt f p r ss cs ss' cs' = Phased (rebuild f p.constant (held p.count ss cs)) p.count r ss cs ss' cs'

-- a path sum of a phase alone
abbrev pub alone : phase.Phase → PathSum
alone φ = record { phase = φ; wires = []; live = [] }

-- the parity that a set and a constant bit stand for
abbrev pub parity_of : ParityWord → Parity
parity_of w = record { vars = set_of w.set; flipped = w.flipped }

-- what a sum is lent: the parities of its wires, one a qubit, and in two slices its terms' sets and coefficients. The sets of a slice are
-- those that its words hold
pub record Lent : Type 0 where
  pub wires : List Parity
  pub sets : List ℕ
  pub coeffs : List ℕ

-- the wires and the slices by their lists
abbrev pub slices : List Parity → List ℕ → List ℕ → Lent
slices wires ss cs = record { wires = wires; sets = ss; coeffs = cs }

-- the wires and the slices by what these hold, the sets by their words: before a call or after it
abbrev pub lent : List Parity → List ℕ → List ℕ → Lent
lent wires ss cs = slices wires (sets_at ss) cs

-- the numbers of a list that are in a set
unfoldable pub among : ℕ → List ℕ → List ℕ
among s [] = []
among s (v ∷ vs) = cond (bit v s) (v ∷ among s vs) (among s vs)

-- the members of a set of no more variables than a pair may have, in rising order
abbrev pub members : ℕ → List ℕ
members s = among s (from 0 most_variables)

-- what a search for a variable found, an option of the code, as one of the definitions
abbrev pub found_of : code.Option ℕ → Option ℕ
found_of (Some v) = some v
found_of None = none

-- the path sum that a sum and what it is lent stand for
abbrev pub sum_of : Sum → Lent → PathSum
sum_of s l = record { phase = phase_of s.phase l.sets l.coeffs; wires = l.wires; live = members (set_of s.live) }

-- what changing a sum asks of its slices: as many places as there are terms
pub record Stands (s : Sum) (l : Lent) : Type 0 where
  pub sets : s.phase.count ≤ length l.sets
  pub coeffs : s.phase.count ≤ length l.coeffs

-- what a call leaves that was lent l, of which m places of the workspaces were in use: the path sum t
pub record Became (t : PathSum) (m : ℕ) (r : Sum) (l l' : Lent) : Type 0 where
  pub sum : sum_of r l' ≡ t
  pub terms : Stored m t.phase.terms r.phase.count l.sets l.coeffs l'.sets l'.coeffs

-- what a call leaves that changed a sum by f
abbrev pub Changed : (PathSum → PathSum) → ℕ → Sum → Sum → Lent → Lent → Type 0
Changed f m s r l l' = Became (f (sum_of s l)) m r l l'

-- what a call leaves that changed a sum by f and was not lent its wires
abbrev pub TermsChanged : (PathSum → PathSum) → ℕ → Sum → Sum → List ℕ → List ℕ → List ℕ → List ℕ → Type 0
TermsChanged f m s r ss cs ss' cs' =
    (wires : List Parity) → Changed f m s r (slices wires (sets_at ss) cs) (slices wires (sets_at ss') cs')

-- what reducing a sum asks of what it is lent: at most 16 wires, and room for the terms and one more for each variable left
pub record Sized (s : Sum) (l : Lent) : Type 0 where
  pub few : length l.wires ≤ 16
  pub sets : s.phase.count + length (members (set_of s.live)) ≤ length l.sets
  pub coeffs : s.phase.count + length (members (set_of s.live)) ≤ length l.coeffs
