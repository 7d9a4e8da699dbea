-- How many soft values, terms and bytes there are.
use Rattle.std.proofs.Common.{◌≡◌, ℕ, length, List}
use Rattle.std.proofs.lemmas.List.FromFn.{length-map-range_with_len}
use Rattle.lte_bits.specs.declared.bit.Bit.{Bit}
use Rattle.soft_channel.specs.Noise.{Strength, Transmission, noise_term, noise_terms, noisy, noisy_value}
use Rattle.soft_channel.specs.TrialPayload.{payload_byte, trial_payload}

pub length_noise_terms : (noise : ℕ) (t : Transmission) (count : ℕ) → length (noise_terms noise t count) ≡ count
unfolding noise_terms
length_noise_terms noise t count = length-map-range_with_len (noise_term noise t) 0 count

pub length_noisy : (s : Strength) (t : Transmission) (bits : List Bit) → length (noisy s t bits) ≡ length bits
unfolding noisy
length_noisy s t bits = length-map-range_with_len (noisy_value s t bits) 0 (length bits)

pub length_trial_payload : (seed block n : ℕ) → length (trial_payload seed block n) ≡ n
unfolding trial_payload
length_trial_payload seed block n = length-map-range_with_len (payload_byte seed block) 0 n
