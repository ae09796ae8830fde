-- The laws: each request has one exchange at most, few exchanges have no place, and until Stop there are few in all.
use Rattle.std.proofs.Common.{◌≡◌, refl, ℕ, ◌+◌, ◌≤◌, Bool, true, false, not, ◌||◌, List, [], ◌∷◌, ◌++◌, filter, cond, length, is_some, le_refl, le_trans, arith}
use Rattle.pp_law.specs.State.{State, Term, Exchange, start}
use Rattle.pp_laws.specs.Runs.{state_after}
use Rattle.pp_laws.proofs.Lists.{one_of}
use Rattle.pp_laws.proofs.Sound.{exchange_number}
use Rattle.pp_laws_bounds.specs.Bounds.{Always, has_place}
use Rattle.pp_laws_bounds.proofs.Placed.{few_placed}
use Rattle.pp_laws_pool.proofs.Along.{along, Next, Steps}
use Rattle.pp_laws_pool.proofs.View.{Holds, facts_of}
use Rattle.pp_laws_asks.specs.Asks.{HasFewExchanges, HasFewWaiting, HasOneEach, is_waiting}
use Rattle.pp_laws_asks.proofs.AsksFacts.{Asks}
use Rattle.pp_laws_asks.proofs.AsksHappenings.{after-asks, start-asks}

asks_steps : Steps (Holds Asks)
asks_steps terms front h next asks = after-asks (state_after terms front) h next.permitted asks

asks_along : Always (Holds Asks)
asks_along = along (Holds Asks) start-asks asks_steps

pub one_each : Always HasOneEach
one_each terms front rest lawful d e c i j di ei = let f = facts_of (asks_along terms front rest lawful) in one_of exchange_number (state_after terms front).exchanges d e f.rise i j (f.one d e c i j di ei)

pub few_waiting : Always HasFewWaiting
few_waiting terms front rest lawful = (facts_of (asks_along terms front rest lawful)).few

-- each has a place or is waiting
counted : (e : Exchange) (xs ys zs : List Exchange) (a p : Bool) → length xs ≤ length ys + length zs → length (e ∷ xs) ≤ length (cond p (e ∷ ys) ys) + length (cond (a || not p) (e ∷ zs) zs)
counted e xs ys zs true true le = omega arith
counted e xs ys zs false true le = omega arith
counted e xs ys zs true false le = omega arith
counted e xs ys zs false false le = omega arith

placed_or_waiting : (es : List Exchange) → length es ≤ length (filter has_place es) + length (filter is_waiting es)
placed_or_waiting [] = le_refl 0
placed_or_waiting (e ∷ es) = counted e es (filter has_place es) (filter is_waiting es) (is_some e.asker) (is_some e.place) (placed_or_waiting es)

pub few_exchanges : Always HasFewExchanges
few_exchanges terms front rest lawful going =
    let all : length (state_after terms front).exchanges ≤ length (filter has_place (state_after terms front).exchanges) + length (filter is_waiting (state_after terms front).exchanges) = placed_or_waiting (state_after terms front).exchanges in
    let placed : length (filter has_place (state_after terms front).exchanges) ≤ 512 = few_placed terms front rest lawful going in
    let waiting : length (filter is_waiting (state_after terms front).exchanges) ≤ 256 = few_waiting terms front rest lawful in
    omega arith
