-- Who follows is served where its next byte is there or comes, and who follows nothing while the exchange of its request is there.
use Rattle.std.proofs.Common.{◌≡◌, refl, Bool, true, false, ◌||◌, Some, None, ap, ◌∙◌}
use Rattle.std.specs.List.{list_any}
use Rattle.pp_law.specs.Connections.{is_for}
use Rattle.pp_law.specs.Offers.{has_to_say}
use Rattle.pp_law.specs.Phases.{come_to, ending}
use Rattle.pp_law.specs.Sharing.{is_sharing}
use Rattle.pp_law.specs.State.{State, DecidingAgain, Client, Exchange}
use Rattle.pp_law.specs.Table.{Next, brings, is_brought, is_next_held, is_provided, next_of}
use Rattle.pp_law.specs.Turn.{waits_for}
use Rattle.pp_laws.specs.Runs.{IsIn}
use Rattle.pp_laws.proofs.Sound.{Sound}
use Rattle.pp_laws.proofs.Steps.{come_to-sound}
use Rattle.pp_obeys.proofs.Obeying.{obeys_good}
use Rattle.pp_laws_ends.specs.Ends.{AllStand, FollowersAreServed, IsClientServed, OwnersAreServed}
use Rattle.pp_laws_ends.proofs.Ahead.{held_begun, or_first, since}
use Rattle.pp_laws_ends.proofs.Served.{speaks}
use Rattle.pp_laws_ends.proofs.Standing.{all_stand}
use Rattle.pp_laws_ends.proofs.Undecided.{waits_so}
use Rattle.pp_laws_ends.proofs.Wanted.{any_of}

held_says : (s : State) → Sound since (come_to DecidingAgain s) → (c : Client) (n : Next) → IsIn c (ending s).clients → next_of (ending s) c ≡ Some n → is_next_held (ending s) n ≡ true → has_to_say (ending s) c ≡ true
unfolding ending
held_says s h c n i next held = held_begun (come_to DecidingAgain s) h c n i next held

provided : (u : State) → AllStand u → (c : Client) (n : Next) → IsIn c u.clients → next_of u c ≡ Some n → (is_next_held u n ≡ true → has_to_say u c ≡ true) → is_provided u n ≡ true → IsClientServed u c
provided u h c n i next says is = by (is_next_held u n) refl is
  where
    by : (t : Bool) → is_next_held u n ≡ t → (t || is_brought u n.source n.at) ≡ true → IsClientServed u c
    by true held at = speaks u h c i (says held)
    by false isnt at =
        waits_so u h c i
        (or_first (list_any (waits_for u c) u.exchanges) (is_sharing u c)
        (ap (λ o. list_any (λ (e : Exchange). elim o as (λ x. Bool) [ Some m ↦ brings u m.source m.at e | None ↦ is_for e c ]) u.exchanges) next ∙ at))

pub followers_served : FollowersAreServed
followers_served terms s log obeys c n i next is = provided (ending s) (all_stand terms s log obeys) c n i next (held_says s (come_to-sound DecidingAgain s (obeys_good obeys).sound) c n i next) is

owner : (u : State) → AllStand u → (c : Client) (e : Exchange) → IsIn c u.clients → IsIn e u.exchanges → next_of u c ≡ None → is_for e c ≡ true → IsClientServed u c
owner u h c e i j none its =
    waits_so u h c i
    (or_first (list_any (waits_for u c) u.exchanges) (is_sharing u c)
    (any_of (waits_for u c) e u.exchanges j (ap (λ o. elim o as (λ x. Bool) [ Some m ↦ brings u m.source m.at e | None ↦ is_for e c ]) none ∙ its)))

pub owners_served : OwnersAreServed
owners_served terms s log obeys c e i j none its = owner (ending s) (all_stand terms s log obeys) c e i j none its
