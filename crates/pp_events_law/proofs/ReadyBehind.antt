-- Each client that goes on can be decided behind an event, where what it follows is there.
use Rattle.std.proofs.Common.{◌≡◌, ◌<◌, sym, subst, ap, ◌∙◌, ℕ}
use Rattle.pp_turns_law.specs.Regains.{AllFollow}
use Rattle.pp_law.specs.State.{State}
use Rattle.pp_proxy.specs.Moving.{Turning}
use Rattle.pp_seats.specs.Dues.{refused_in}
use Rattle.pp_seats.specs.declared.front.Front.{Front}
use Rattle.pp_state.specs.Ends.{parts}
use Rattle.pp_states_law.specs.Told.{IsTold}
use Rattle.pp_turns_law.specs.Rows.{IsReady}
use Rattle.pp_events_law.proofs.Alike.{AreAlike, WasAlike}
use Rattle.pp_events_law.proofs.Left.{AreLeft, WasLeft}
use Rattle.pp_events_law.specs.Ready.{KeysAreGiven, StaysReady}
use Rattle.pp_events_law.specs.Stands.{AreReadyAt}

pub ready_behind : (number : ℕ → ℕ) (x y : Turning) (s t : State) → t.next_instance ≡ s.next_instance → AreLeft (parts x.moving.desk.state) (parts y.moving.desk.state) → AllFollow y.moving.desk.state → AreReadyAt number x.moving s → StaysReady number x y t
ready_behind number x y s t same left follow ready given j new at going =
    let was : WasLeft x.moving.desk.state.seats.items j new = left.was j new at in
    let old : IsReady number x.moving.desk.state.cache s.next_instance was.old = ready j was.old was.here (was.is.going going) in
    record {
      follows = follow j new at going;
      key = λ refused. old.key (given j was.old new was.here at going refused);
      joined = λ id plain joins.
          let told : IsTold number x.moving.desk.state.cache s.next_instance id = old.joined id plain (was.is.joins id plain joins) in
          record {
            given = subst (λ (n : ℕ). id.life < n) (sym left.lives) told.given;
            made = subst (λ (n : ℕ). number id.life < n) (sym same) told.made;
            apart = λ other there. told.apart other (left.there other there);
          };
    }

-- from where requests are the same
pub given_on : (x z y : Turning) → AreAlike (parts x.moving.desk.state) (parts z.moving.desk.state) → KeysAreGiven x.moving.desk.state.seats.items y.moving.desk.state.seats.items → KeysAreGiven z.moving.desk.state.seats.items y.moving.desk.state.seats.items
given_on x z y alike given i before after here there going refused =
    let was : WasAlike x.moving.desk.state.seats.items i before = alike.was i before here in
    ap (λ (f : Front). refused_in f) was.is.front ∙ given i was.old after was.here there going refused
