-- What `trial` answers: payloads from a seed, sent, received with noise, and counted.
use Rattle.std.specs.Prelude.{◌≡◌, ℕ, ◌+◌, ◌*◌, ◌^◌, ◌≤◌, Bool, true, false, not, ℤ, List, [], ◌∷◌, ◌++◌, nat_lt, if◌then◌else◌, sum_by, codes, decimal}
use Rattle.std.specs.List.{range_with_len}
use Rattle.std.specs.Str.{bytes_eq}
use Rattle.model_sender.specs.Codeword.{codeword}
use Rattle.model_sender.specs.Segmentation.{plan_of}
use Rattle.model_receiver.specs.Limits.{DecoderLimits}
use Rattle.model_receiver.specs.TransportBlocks.{outcome}
use Rattle.model_receiver.specs.declared.result.TbOutcome.{TbOutcome}
use Rattle.model_receiver.specs.declared.result.TbOutcome.TheVariants.{Delivered, Failed}
use Rattle.rate_match.specs.declared.sends.Sending.{Sending}
use Rattle.block_receive.specs.Receptions.{receptions}
use Rattle.soft_channel.specs.Channel.{NoiseChannel, strength_of, transmission_over}
use Rattle.soft_channel.specs.Noise.{noisy}
use Rattle.soft_channel.specs.TrialPayload.{trial_payload}
use Rattle.run_loop.specs.Lines.{line_end}
use Rattle.run_loop.specs.Reply.{Reply, unread}
use Rattle.run_loop.specs.Step.{ending_of}
use Rattle.command_trial.specs.declared.counts.Counts.{Counts}
use Rattle.command_trial.specs.declared.trial.Trial as rust

-- how many blocks of how many bytes, their transmissions, the channel, from whose seed the payloads come too, and
-- the limits of the decoder
pub record Trial : Type 0 where
  pub blocks : ℕ
  pub tb : ℕ
  pub sends : List Sending
  pub channel : NoiseChannel
  pub limits : DecoderLimits

abbrev pub trial_of : rust.Trial → Trial
trial_of t = record { blocks = t.blocks; tb = t.tb; sends = t.sends; channel = t.channel; limits = t.limits }

-- ---- a block, by its number from 0

abbrev pub payload : Trial → (block : ℕ) → List ℕ
payload t block = trial_payload t.channel.seed block t.tb

-- what is received of a transmission: its codeword with noise
abbrev pub received : Trial → (block number : ℕ) → Sending → List ℤ
received t block number s =
    noisy (strength_of t.channel) (transmission_over t.channel block number) (codeword (payload t block) s.m s.rv)

-- of these transmissions, of which the first has this number, one after the other
abbrev pub softs_from : Trial → (block number : ℕ) → List Sending → List ℤ
softs_from t block number [] = []
softs_from t block number (s ∷ sends) =
    received t block number s ++ softs_from t block (number + 1) sends

abbrev pub softs : Trial → (block : ℕ) → List ℤ
softs t block = softs_from t block 0 t.sends

-- what its reception comes to
unfoldable pub block_outcome : Trial → (block : ℕ) → TbOutcome
block_outcome t block = outcome (plan_of t.tb) t.limits (receptions t.sends (softs t block))

-- ---- what is counted

abbrev pub one_if : Bool → ℕ
one_if holds = if holds then 1 else 0

abbrev pub is_delivered : TbOutcome → Bool
is_delivered (Delivered bytes transmissions iterations) = true
is_delivered (Failed transmissions iterations) = false

-- delivered with the bytes that were sent
abbrev pub is_matched : (sent : List ℕ) → TbOutcome → Bool
is_matched sent (Delivered bytes transmissions iterations) = bytes_eq bytes sent
is_matched sent (Failed transmissions iterations) = false

abbrev pub transmissions_of : TbOutcome → ℕ
transmissions_of (Delivered bytes transmissions iterations) = transmissions
transmissions_of (Failed transmissions iterations) = transmissions

abbrev pub iterations_of : TbOutcome → ℕ
iterations_of (Delivered bytes transmissions iterations) = iterations
iterations_of (Failed transmissions iterations) = iterations

-- of one block
abbrev pub counts_of : (sent : List ℕ) → TbOutcome → Counts
counts_of sent o = record {
  delivered = one_if (is_delivered o);
  matched = one_if (is_matched sent o);
  failed = one_if (not (is_delivered o));
  transmissions = transmissions_of o;
  iterations = iterations_of o;
}

abbrev pub block_counts : Trial → (block : ℕ) → Counts
block_counts t block = counts_of (payload t block) (block_outcome t block)

-- of nothing
abbrev pub none_counted : Counts
none_counted = record { delivered = 0; matched = 0; failed = 0; transmissions = 0; iterations = 0 }

-- with those of one block more
abbrev pub added : Counts → Counts → Counts
added c one = record {
  delivered = c.delivered + one.delivered;
  matched = c.matched + one.matched;
  failed = c.failed + one.failed;
  transmissions = c.transmissions + one.transmissions;
  iterations = c.iterations + one.iterations;
}

-- of the first blocks
unfoldable pub counted : Trial → (blocks : ℕ) → Counts
counted t blocks = let each = range_with_len 0 blocks in record {
  delivered = sum_by (λ b. (block_counts t b).delivered) each;
  matched = sum_by (λ b. (block_counts t b).matched) each;
  failed = sum_by (λ b. (block_counts t b).failed) each;
  transmissions = sum_by (λ b. (block_counts t b).transmissions) each;
  iterations = sum_by (λ b. (block_counts t b).iterations) each;
}

-- what these can be at most: numbers of blocks, and sums of 64-bit numbers
pub record AreFew (blocks : ℕ) (c : Counts) : Type 0 where
  pub delivered : c.delivered ≤ blocks
  pub matched : c.matched ≤ blocks
  pub failed : c.failed ≤ blocks
  pub transmissions : c.transmissions ≤ blocks * 2 ^ 64
  pub iterations : c.iterations ≤ blocks * 2 ^ 64

-- ---- the line

-- `trial blocks N delivered D matched A failed F transmissions T iterations I`
abbrev pub trial_line : (blocks : ℕ) → Counts → List ℕ
trial_line blocks c =
    codes "trial blocks " ++ decimal blocks ++ codes " delivered " ++ decimal c.delivered
    ++ codes " matched " ++ decimal c.matched ++ codes " failed " ++ decimal c.failed
    ++ codes " transmissions " ++ decimal c.transmissions ++ codes " iterations " ++ decimal c.iterations
    ++ line_end

abbrev pub counts_reply : (blocks : ℕ) → Counts → Reply
counts_reply blocks c = unread (trial_line blocks c) (ending_of (nat_lt 0 c.failed))

-- nothing is read, and nothing goes to `out`
abbrev pub trial_reply : Trial → Reply
trial_reply t = counts_reply t.blocks (counted t t.blocks)

-- the line, and whether a block failed
abbrev pub IsTold : Trial → (line : List ℕ) → (failed : Bool) → Type 0
IsTold t line failed = (line ≡ trial_line t.blocks (counted t t.blocks))
    × (failed ≡ nat_lt 0 (counted t t.blocks).failed)
