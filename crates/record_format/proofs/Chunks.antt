-- Gate bytes in chunks of three, as loops take them: the gates that the chunks stand for are those that the bytes stand for.
-- Assumes nothing.
use Rattle.std.proofs.Common.{◌≡◌, refl, ◌∙◌, ℕ, suc, ◌*◌, ◌/◌, List, [], ◌∷◌, ◌++◌, length, arith}
use Rattle.std.proofs.lemmas.List.{map-append, length-map}
use Rattle.std.proofs.lemmas.Simd.{map-map}
use Rattle.std.specs.Simd.{first_chunks}
use Rattle.record_format.specs.Gate.{gate_of_three, body_bytes, inverse_gate, inverse_list, shift_list}
use Rattle.record_format.specs.Reading.{raws, gates_in}
use Rattle.record_format.proofs.GateLaws.{inverse_snoc, length-inverse, length_shift}
use Rattle.record_format.proofs.Encoding.{length-body}
pub use Rattle.record_format.specs.Chunks.{raws_of, gates_of}

-- the chunks of bytes are the bytes, three by three
pub raws_of_chunks : (bytes : List ℕ) → raws_of (first_chunks 3 (length bytes / 3) bytes) ≡ raws bytes
unfolding raws
raws_of_chunks [] = refl
raws_of_chunks (k ∷ []) = refl
raws_of_chunks (k ∷ a ∷ []) = refl
raws_of_chunks (k ∷ a ∷ b ∷ rest) =
    let more : length (k ∷ a ∷ b ∷ rest) / 3 ≡ suc (length rest / 3) = omega arith in
    rw (more, raws_of_chunks rest)

-- chunks that are bytes three by three stand for the same gates
pub gates_of_raws : (chunks : List (List ℕ)) (bytes : List ℕ) → raws_of chunks ≡ raws bytes → gates_of chunks ≡ gates_in bytes
gates_of_raws chunks bytes same = rw (← same, map-map)

-- so the chunks of bytes do
pub gates_of_chunks : (bytes : List ℕ) → gates_of (first_chunks 3 (length bytes / 3) bytes) ≡ gates_in bytes
gates_of_chunks bytes = gates_of_raws _ bytes (raws_of_chunks bytes)

-- a last chunk's gate comes last
pub gates_of_last : (chunks : List (List ℕ)) (chunk : List ℕ) → gates_of (chunks ++ chunk ∷ []) ≡ gates_of chunks ++ gate_of_three chunk ∷ []
gates_of_last chunks chunk = map-append gate_of_three chunks (chunk ∷ [])

-- and its inverse first
pub inverses_of_last :
    (chunks : List (List ℕ)) (chunk : List ℕ)
    → inverse_list (gates_of (chunks ++ chunk ∷ [])) ≡ inverse_gate (gate_of_three chunk) ∷ inverse_list (gates_of chunks)
inverses_of_last chunks chunk = rw (gates_of_last chunks chunk) (inverse_snoc (gates_of chunks) (gate_of_three chunk))

-- there are as many gates as chunks, and as many inverses
pub length_gates_of : (chunks : List (List ℕ)) → length (gates_of chunks) ≡ length chunks
length_gates_of chunks = length-map chunks gate_of_three

pub length_inverses_of : (chunks : List (List ℕ)) → length (inverse_list (gates_of chunks)) ≡ length chunks
length_inverses_of chunks = length-inverse (gates_of chunks) ∙ length_gates_of chunks

-- the bytes of the gates inverted are three for each chunk
pub length_inverse_bytes : (chunks : List (List ℕ)) → length (body_bytes (inverse_list (gates_of chunks))) ≡ 3 * length chunks
length_inverse_bytes chunks = omega (arith, length-body (inverse_list (gates_of chunks)), length_inverses_of chunks)

-- and with their qubits further on
pub length_shifted_bytes : (k : ℕ) (chunks : List (List ℕ)) → length (body_bytes (shift_list k (gates_of chunks))) ≡ 3 * length chunks
length_shifted_bytes k chunks =
    omega (arith, length-body (shift_list k (gates_of chunks)), length_shift k (gates_of chunks), length_gates_of chunks)
