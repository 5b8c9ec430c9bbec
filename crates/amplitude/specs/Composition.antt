-- Two lists put together, as linear maps: one after the other over the same qubits, and side by side over the qubits of both. Amplitudes are
-- those of Circuit, H without its factor. The H gates of two lists together are those of the first and those of the second, so that both
-- sides of each equation here are to be divided by √2 equally often: the true amplitudes fulfil the same equations. Last, that joins may be
-- compared part by part.
-- Assumes nothing.
use Rattle.std.specs.Prelude.{◌≡◌, ℕ, ◌+◌, ◌*◌, ◌^◌, ◌<◌, List, ◌++◌}
use Rattle.record_format.specs.Gate.{Gate, AllWithin, shift_list}
use Rattle.amplitude.specs.Number.{◌*ω◌, sum_below}
use Rattle.amplitude.specs.Circuit.{column, Carries}

-- the product of matrices, over n qubits: from every input v to every output w, the sum over all values u in between of the first's
-- amplitude from v to u times the second's from u to w
abbrev pub MatrixProduct : ℕ → List Gate → List Gate → List Gate → Type 0
MatrixProduct n first second joined =
    (v w : ℕ) → v < 2 ^ n → w < 2 ^ n → column joined v w ≡ sum_below (2 ^ n) (λ u. column first v u *ω column second u w)

-- the tensor product, the first over n qubits and the second over m that are numbered after them: from every joined input v + 2^n v' to
-- every joined output w + 2^n w', the first's amplitude from v to w times the second's from v' to w'
abbrev pub TensorProduct : ℕ → ℕ → List Gate → List Gate → List Gate → Type 0
TensorProduct n m first second joined =
    (v w v' w' : ℕ) → v < 2 ^ n → w < 2 ^ n → v' < 2 ^ m → w' < 2 ^ m →
    column joined (v + 2 ^ n * v') (w + 2 ^ n * w') ≡ column first v w *ω column second v' w'

-- joined in time over n qubits: where ω^j carries the first lists, one to the other, and ω^k the second lists, ω^(j + k) carries the joined
-- ones. With j and k 0: parts of equal amplitudes make joins of equal amplitudes
abbrev pub CarriedInTime : Type 0
CarriedInTime =
    (n j k : ℕ) (first first' second second' : List Gate) → AllWithin n first → AllWithin n first' →
    Carries n j first first' → Carries n k second second' → Carries n (j + k) (first ++ second) (first' ++ second')

-- and so joined in space, the first lists over n qubits and the second over m that are numbered after them
abbrev pub CarriedInSpace : Type 0
CarriedInSpace =
    (n m j k : ℕ) (first first' second second' : List Gate) → AllWithin n first → AllWithin n first' →
    Carries n j first first' → Carries m k second second' →
    Carries (n + m) (j + k) (first ++ shift_list n second) (first' ++ shift_list n second')
