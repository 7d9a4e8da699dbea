-- What a claim answers. Each answer is for the word that its look loaded and the word that its exchange
-- found, and these fit one answer alone.
use Rattle.std.specs.Prelude.{◌≡◌, ◌≢◌, ℕ, ◌+◌, ◌<◌}
use Rattle.phase_board.specs.declared.board.Board.{Board}
use Rattle.phase_board.specs.declared.seats.Claim.{Claim}
use Rattle.phase_board.specs.declared.seats.Claim.TheVariants.{Taken, NotYet, Lost, Over}
use Rattle.phase_board.specs.declared.view.View.{View}
use Rattle.phase_board.specs.declared.piece.Piece.{Ghosts}
use Rattle.phase_board.specs.ClaimWord.{half_of, drawn_of, next_number, IsStopped, NotStopped, NotNewer}
use Rattle.phase_board.specs.Numbers.{AllBelow}
use Rattle.phase_board.specs.Steps.{after_look, after_draw}
use Rattle.phase_board.specs.Seats.{idle_view, working_view, IsIdleOf, IsWorkingOf}

-- one more look, whose word isn't older than what was found before
abbrev pub Looked : {J : Type 0} → View J → View J → Type 0
Looked old new = (new.looks ≡ old.looks + 1) × NotNewer old.found new.loaded

-- the word w gives a window, of so many in a half
abbrev pub GivesOne : ℕ → ℕ → Type 0
GivesOne windows w = NotStopped w × (drawn_of w < windows)

module _ {P C J : Type 0} {G : Ghosts P C J} where
  abbrev pub claim_view : Claim P C J G → View J
  claim_view (Taken w) = working_view w
  claim_view (NotYet s h) = idle_view s
  claim_view (Lost s a b) = idle_view s
  claim_view (Over s) = idle_view s

  -- the seat in the answer is of the board, and has its job
  abbrev pub IsClaimOf : Board P C J → Claim P C J G → Type 0
  IsClaimOf b (Taken w) = IsWorkingOf b w
  IsClaimOf b (NotYet s h) = IsIdleOf b s
  IsClaimOf b (Lost s x y) = IsIdleOf b s
  IsClaimOf b (Over s) = IsIdleOf b s

  -- by the seat's view before, and the number of windows
  abbrev pub ClaimIs : J → View J → Claim P C J G → Type 0
  ClaimIs job old (Taken w) = GivesOne (G.windows job) (working_view w).loaded
      × (w.half ≡ half_of (working_view w).loaded) × (w.window ≡ drawn_of (working_view w).loaded)
      × (working_view w ≡ after_draw (G.windows job) (after_look old (working_view w).loaded))
      × AllBelow (next_number (G.windows job) (working_view w).loaded) old.drawn
      × G.ready job w.half w.window w.piece
  ClaimIs job old (NotYet s h) = NotStopped (idle_view s).loaded
      × (drawn_of (idle_view s).loaded ≡ G.windows job) × (h ≡ half_of (idle_view s).loaded)
      × (idle_view s ≡ after_look old (idle_view s).loaded)
  ClaimIs job old (Lost s a b) = (a ≢ b) × GivesOne (G.windows job) a
      × (idle_view s ≡ record (after_look old a) { found = b })
  ClaimIs job old (Over s) = IsStopped (idle_view s).loaded
      × (idle_view s ≡ after_look old (idle_view s).loaded)
