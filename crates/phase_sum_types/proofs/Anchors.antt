-- Worked cases of the definitions, by computation.
-- Assumes nothing.
use mathlib.Core.Path.{◌≡◌, refl}
use mathlib.Core.List.{[], ◌∷◌}
use Rattle.record_format.specs.Gate.{one, T, S†, gate_of, inverse_kind, inverse_gate, inverse_list}
use Rattle.record_format.specs.Reading.{raws}
use Rattle.phase_sum_types.specs.Unmerged.{miter_in}

-- T on 0, then the inverse of S on 1
pub joined_of_two : miter_in (5 ∷ 0 ∷ 255 ∷ []) (3 ∷ 1 ∷ 255 ∷ []) ≡ one T 0 ∷ one S† 1 ∷ []
unfolding raws gate_of inverse_list inverse_gate inverse_kind
joined_of_two = refl
