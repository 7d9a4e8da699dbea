use Rattle.std.proofs.Common.{◌<◌, ℕ, arith}
use Rattle.std.proofs.lemmas.Simd.{below_from_Fits, Each1-get_or}
use Rattle.std.specs.Int.{w16}
use Rattle.lane_banks.proofs.Words.{put-words}
use Rattle.lane_banks.proofs.shuffles.put.Goals as goal

pub returns : goal.returns
returns c = put-words c.args.words c.args.row.now c.fits-words.0 c.requires.row
    (λ t lt. Each1-get_or (λ (x : ℕ). x < 65536) c.args.words t 0 (omega (arith, lt, c.fits-words.0)) (below_from_Fits w16 c.args.words c.fits-words.1))
