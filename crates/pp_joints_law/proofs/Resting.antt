-- Behind the wait what is carried stands.
use Rattle.std.proofs.Common.{◌≡◌, ◌≤◌, ◌+◌, refl, sym, subst, ap, ◌∙◌, ℕ, length, List}
use Rattle.std.specs.Prelude.{vec_capacity}
use Rattle.pp_turns_law.specs.Log.{AreLinked}
use Rattle.pp_desk.specs.declared.desk.Desk.{Desk}
use Rattle.pp_joints_law.proofs.Asks.{Can, rested_can}
use Rattle.pp_joints_law.proofs.Same.{IsSameDisk, disk_as, set_from}
use Rattle.pp_joints_law.specs.Carried.{IsCarried}
use Rattle.pp_joints_law.specs.Settling.{WaitsCarry}
use Rattle.pp_law.specs.State.{State}
use Rattle.pp_law.specs.Turn.{rest_with}
use Rattle.pp_places_law.specs.Closings.{AreOpen}
use Rattle.pp_proxy.specs.Awaiting.{Awaits, Rests}
use Rattle.pp_proxy.specs.Moving.{Moving, with_desk}
use Rattle.pp_rounds_law.proofs.Went.{as_many}
use Rattle.pp_store.specs.Kept.{KeptMap}
use Rattle.pp_waits_law.specs.Rests.{HasRested}
use Rattle.pp_wants.specs.Rests.{all_waiting}
use Rattle.pp_world.specs.declared.event.Wants.{Wants}

same_disk : (w : Wants) (s : State) → IsSameDisk s (rest_with w s)
unfolding rest_with
same_disk w s = record { idle = refl; agenda = refl; entries = refl; closed = refl; displaced = refl; lost = refl }

same_settings : (w : Wants) (s : State) → (rest_with w s).settings ≡ s.settings
unfolding rest_with
same_settings w s = refl

module _ (number : ℕ → ℕ) (shelf : KeptMap) (before : List ℕ) (w : Wants) (clients : ℕ) (x : Moving) (e f : Desk) (s : State) (carried : IsCarried shelf x s) (awaits : Awaits before w clients x.desk e) (rests : Rests w clients e f) (rested : HasRested number x.desk f s (rest_with w s)) where
  as_many_origins : length f.peers ≡ length x.desk.peers
  as_many_origins = sym (as_many f.peers) ∙ ap (λ (ns : List ℕ). length ns) rested.origins ∙ as_many x.desk.peers

  can_before : Can e.state.flow
  can_before = subst Can (sym (ap (λ (d : Desk). d.state.flow) awaits.rest)) (carried.waiting, carried.placed)

  can : Can f.state.flow
  can = subst Can (sym rests.flow) (rested_can e.state.awake.items (all_waiting e.state) e.state.flow can_before)

  pub carried_over : IsCarried shelf (with_desk f x) (rest_with w s)
  carried_over = record {
    disk = disk_as shelf x.desk.state f.state s (rest_with w s) (same_disk w s)
        (ap (λ (d : Desk). d.state.cache.outdated) rests.rest ∙ ap (λ (d : Desk). d.state.cache.outdated) awaits.rest) (ap (λ (d : Desk). d.state.has_lost_draft) rests.rest ∙ ap (λ (d : Desk). d.state.has_lost_draft) awaits.rest) carried.disk;
    set = set_from x.desk f s (rest_with w s)
        (record {
          name = ap (λ (d : Desk). d.state.name.items) rests.rest ∙ ap (λ (d : Desk). d.state.name.items) awaits.rest;
          trigger = ap (λ (d : Desk). d.state.trigger) rests.rest ∙ ap (λ (d : Desk). d.state.trigger) awaits.rest;
          floor = ap (λ (d : Desk). d.state.floor) rests.rest ∙ ap (λ (d : Desk). d.state.floor) awaits.rest;
          shares = ap (λ (d : Desk). d.state.shares_fetches) rests.rest ∙ ap (λ (d : Desk). d.state.shares_fetches) awaits.rest;
          limits = ap (λ (d : Desk). d.state.limits) rests.rest ∙ ap (λ (d : Desk). d.state.limits) awaits.rest;
          run = ap (λ (d : Desk). d.state.run) rests.rest ∙ ap (λ (d : Desk). d.state.run) awaits.rest;
          file = ap (λ (d : Desk). length d.file.items) rests.rest ∙ ap (λ (d : Desk). length d.file.items) awaits.rest;
          ticked = ap (λ (d : Desk). d.state.has_ticked) rests.rest ∙ ap (λ (d : Desk). d.state.has_ticked) awaits.rest;
        })
        (subst (λ (n : ℕ). 257 ≤ n) (sym (ap (λ (d : Desk). vec_capacity d.state.awake) rests.rest ∙ awaits.room)) carried.set.room) (same_settings w s) rested.has_ticked carried.set;
    links = record {
      clients = subst (λ (ns : List ℕ). AreOpen ns x.links) (sym rested.clients) carried.links.clients;
      origins = subst (λ (ns : List ℕ). AreLinked ns x.links) (sym rested.origins) carried.links.origins;
      given = carried.links.given;
      few = subst (λ (n : ℕ). length x.links ≤ 256 + n) (sym as_many_origins) carried.links.few;
      top = subst (λ (n : ℕ). n ≤ x.top) (sym rested.top) carried.links.top;
    };
    waiting = can.0;
    placed = can.1;
    away = ap (λ (d : Desk). d.turned_away) rests.rest ∙ ap (λ (d : Desk). d.turned_away) awaits.rest ∙ carried.away;
  }

pub waits : WaitsCarry
waits number shelf before w clients x e f s carried awaits rests rested = carried_over number shelf before w clients x e f s carried awaits rests rested
