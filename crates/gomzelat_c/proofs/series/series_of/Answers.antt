use Rattle.std.proofs.Common.{◌≡◌, ℕ, ◌≤◌, List, length, flat_map, rules, sym, ◌∙◌}
use Rattle.gomzelat_c.specs.Tests.{first_failed, is_from, series_tests, transmission_tests}
use Rattle.gomzelat_c.specs.declared.refusal.Refusal.TheVariants.{BadLength, BadCount}
use Rattle.gomzelat_c.specs.declared.transmission.Transmission.{Transmission}
use Rattle.gomzelat_c.proofs.Errors.{handed_on}
use Rattle.gomzelat_c.proofs.FirstFailed.{after_two, is_from_true}
use Rattle.gomzelat_c.proofs.series.series_of.Goals as goal

-- where the length and the count are accepted, the transmissions are left
begun : (bytes : ℕ) (ts : List Transmission) → 1 ≤ bytes → bytes ≤ 18722 → 1 ≤ length ts → length ts ≤ 8 →
    first_failed (series_tests bytes ts) ≡ first_failed (flat_map transmission_tests ts)
begun bytes ts some few many most =
    after_two (is_from 1 18722 bytes) (is_from 1 8 (length ts)) BadLength BadCount (flat_map transmission_tests ts)
    (is_from_true 1 18722 bytes some few) (is_from_true 1 8 (length ts) many most)

pub returns-in_err-sends-clause-refused : goal.returns-in_err-sends-clause-refused
returns-in_err-sends-clause-refused c =
    handed_on c.from_residual-in_err-sends.result c.in_err-sends.field-0.0 c.from_residual-in_err-sends.ensures.1
    ∙ c.in_err-sends.ensures.refused
    ∙ sym (begun c.args.bytes c.args.transmissions.now (search rules) (search rules) (search rules) (search rules))

pub returns-clause-refused : goal.returns-clause-refused
returns-clause-refused c =
    c.in_ok-sends.ensures.refused
    ∙ sym (begun c.args.bytes c.args.transmissions.now (search rules) (search rules) (search rules) (search rules))
