-- A relay and its hands.
use Rattle.std.specs.Prelude.{◌≡◌, ℕ, ◌+◌, ◌<◌, ◌≤◌, List, [], ◌∷◌, ◌++◌, true, false}
use Rattle.crossbeam_queue.specs.Passes.{IsPassOf, ruled_capacity, view}
use Rattle.tb_pipeline.specs.declared.known.Item.{Item}
use Rattle.tb_pipeline.specs.declared.known.Role.TheVariants.{Taking}
use Rattle.tb_pipeline.specs.declared.known.Known.{Known}
use Rattle.tb_pipeline.specs.declared.hand.Relay.{Relay}
use Rattle.tb_pipeline.specs.declared.hand.Hand.{Hand}
use Rattle.tb_pipeline.specs.declared.hand.Next.{Next}
use Rattle.tb_pipeline.specs.declared.hand.Next.TheVariants.{Job, Empty}
use Rattle.tb_pipeline.specs.Relays.{all_items, IsAbove, IsEndAt}

-- how many jobs and how many hands a relay is for
abbrev pub relay_count : Relay → ℕ
relay_count relay = relay.count

abbrev pub relay_hands : Relay → ℕ
relay_hands relay = relay.hands

-- how many items its queue has room for
abbrev pub relay_room : Relay → ℕ
relay_room relay = ruled_capacity relay.queue

-- what was put, as the pass that filled it knows
abbrev pub relay_items : Relay → List Item
relay_items relay = (view relay.filler.value).all

-- what a hand knows
abbrev pub hand_view : Hand → Known
hand_view hand = view hand.pass

-- it is a hand of this relay
abbrev pub IsHandOf : Relay → Hand → Type 0
IsHandOf relay hand =
    IsPassOf relay.queue hand.pass × ((hand_view hand).all ≡ all_items relay.count relay.hands) × ((hand_view hand).role ≡ Taking)

-- it has popped nothing yet, and hasn't ended
abbrev pub IsNewHandOf : Relay → Hand → Type 0
IsNewHandOf relay hand = IsHandOf relay hand × ((hand_view hand).places ≡ []) × ((hand_view hand).ended ≡ false)

-- it is a hand of this relay that has ended
abbrev pub IsEndedHandOf : Relay → Hand → Type 0
IsEndedHandOf relay hand = IsHandOf relay hand × ((hand_view hand).ended ≡ true)

-- After a number the hand has it, which is its place, and goes on. After an end mark it has the place of
-- this mark, so that each number was popped by then, and it has ended.
abbrev pub IsNextOf : Relay → Hand → Next → Type 0
IsNextOf relay hand (Job next number) =
    IsHandOf relay next × (number < relay.count) × IsAbove (hand_view hand).places number
    × ((hand_view next).places ≡ (hand_view hand).places ++ number ∷ []) × ((hand_view next).ended ≡ false)
IsNextOf relay hand (Empty next) =
    IsHandOf relay next
    × ((place : ℕ) × (relay.count ≤ place) × (place < relay.count + relay.hands)
    × IsEndAt (hand_view hand).all place × IsAbove (hand_view hand).places place
    × ((hand_view next).places ≡ (hand_view hand).places ++ place ∷ []))
    × ((hand_view next).ended ≡ true)
