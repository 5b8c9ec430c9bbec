-- Wires in a slice, as the parities that they stand for: how many there are, one set anew and one complemented.
-- Assumes nothing.
use mathlib.Core.Path.{◌≡◌, sym}
use mathlib.Core.Bool.{false, not}
use mathlib.Core.List.{List, map}
use Prim.Native.Nat.{ℕ, ◌<◌}
use lib.ListN.{length, get_or, set}
use Rattle.std.proofs.lemmas.List.{length-map, get_or-map, map-set}
use Rattle.amplitude.proofs.XorLaws.{xor_trueˡ}
use Rattle.phase_sum_meaning.specs.Parity.{of, complement}
use Rattle.phase_sum_types.specs.Workspace.{parity_of}
use Rattle.phase_sum_types.specs.declared.Parity.{Parity as ParityWord}

-- as many parities as wires
pub length_wires : (ws : List ParityWord) → length (map parity_of ws) ≡ length ws
length_wires ws = length-map ws parity_of

-- a wire that there is
pub wire_at : (ws : List ParityWord) (q : ℕ) (d : ParityWord) → q < length ws → parity_of (get_or ws q d) ≡ get_or (map parity_of ws) q (of 0)
wire_at ws q d l = sym (get_or-map parity_of ws q d (of 0) l)

-- one set anew
pub wire_set : (ws : List ParityWord) (q : ℕ) (w : ParityWord) → map parity_of (set ws q w) ≡ set (map parity_of ws) q (parity_of w)
wire_set ws q w = map-set parity_of ws q w

-- one complemented
pub wire_flipped :
    (ws : List ParityWord) (q : ℕ) → q < length ws →
    let w = get_or ws q (record { set = record { high = 0; low = 0 }; flipped = false }) in
    map parity_of (set ws q (record { set = w.set; flipped = not w.flipped })) ≡
    set (map parity_of ws) q (complement (get_or (map parity_of ws) q (of 0)))
unfolding complement
wire_flipped ws q l = rw (wire_set, ← wire_at ws q (record { set = record { high = 0; low = 0 }; flipped = false }) l, xor_trueˡ)
