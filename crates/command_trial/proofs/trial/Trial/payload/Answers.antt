use Rattle.std.proofs.Common.{◌≡◌, length, IfOk, subst, ◌∙◌, ap}
use Rattle.std.proofs.lemmas.Result.{IfOk-weaker}
use Rattle.soft_channel.specs.Channel.{NoiseChannel}
use Rattle.soft_channel.specs.TrialPayload.{trial_payload}
use Rattle.soft_channel.proofs.Lengths.{length_trial_payload}
use Rattle.command_trial.proofs.trial.Trial.payload.Goals as goal

pub returns-clause-value : goal.returns-clause-value
returns-clause-value c =
    let P : NoiseChannel → Type 0 = λ d. IfOk c.payload.result (λ bytes. bytes ≡ trial_payload d.seed c.args.block c.args.self.now.tb) in
    subst P c.channel.view_is c.payload.ensures

pub returns-clause-long : goal.returns-clause-long
returns-clause-long c =
    let seed = c.channel.inside.seed in
    let n = c.args.self.now.tb in
    IfOk-weaker c.payload.result (λ bytes. bytes ≡ trial_payload seed c.args.block n) (λ bytes. length bytes ≡ n)
    (λ bytes is. ap length is ∙ length_trial_payload seed c.args.block n) c.payload.ensures
