-- At Stop all connections are closed, and the log may end.
use Rattle.std.proofs.Common.{◌≡◌, inl, inr, refl, sym, subst, ap, ap₂, ◌∙◌, ℕ, Bool, true, false, not, ◌||◌, ◌==◌, filter, find, List, [], ◌∷◌, ◌++◌, map, is_some, Option, Some, None, append_assoc, append-nil}
use Rattle.std.specs.List.{list_any}
use Rattle.std.specs.Prelude.{⊤}
use Rattle.pp_desk.specs.Closings.{peer_numbers}
use Rattle.pp_desk.specs.Shutting.{closings, over_peers}
use Rattle.pp_flow_law.specs.Tables.{none_leaves}
use Rattle.pp_law.specs.After.{after}
use Rattle.pp_law.specs.Closing.{is_over}
use Rattle.pp_law.specs.Connections.{each_client}
use Rattle.pp_law.specs.Due.{Due}
use Rattle.pp_law.specs.Followers.{fill, fill_for, give_up_asks}
use Rattle.pp_law.specs.Phases.{behind, in_phase, is_done, is_done_with, next}
use Rattle.pp_law.specs.State.{State, Client, Exchange, Phase, Term, Connecting, Following}
use Rattle.pp_law.specs.Unseen.{drop_unseen}
use Rattle.pp_laws.proofs.Sound.{client_number, conn_number}
use Rattle.pp_laws.specs.Numbers.{AreRising}
use Rattle.pp_laws.specs.Runs.{IsIn}
use Rattle.pp_laws_turn.proofs.Clients.{give_up_asks-keeps}
use Rattle.pp_laws_turn.proofs.Laws.{sound_turns}
use Rattle.pp_laws_turn.proofs.Steps.{drop_unseen-keeps}
use Rattle.pp_laws_turn.proofs.View.{facts_of, holds, view}
use Rattle.pp_laws_turn.specs.SoundTurn.{HasAsker, IsSoundTurn}
use Rattle.pp_obeys.proofs.Frames.{Frame, frame, frame_of, stays as frame_stays}
use Rattle.pp_obeys.proofs.Happenings.{obeys_by}
use Rattle.pp_obeys.proofs.Moving.{lead_joined}
use Rattle.pp_obeys.proofs.Obeying.{obeys_silently}
use Rattle.pp_obeys.proofs.StaysAsks.{drop_unseen-stays, give_up_asks-stays}
use Rattle.pp_obeys.specs.Failures.{fails}
use Rattle.pp_obeys.specs.Moves.{Leads}
use Rattle.pp_obeys.specs.Obeys.{Obeys}
use Rattle.pp_peers.specs.Peers.{goes_on}
use Rattle.pp_proxy.specs.Closing.{ClosesOver}
use Rattle.pp_proxy.specs.Moving.{Moving}
use Rattle.pp_state.specs.Ends.{numbers_of}
use Rattle.pp_turns_law.specs.Turns.{ShowsTurn}
use Rattle.pp_world.specs.Log.{Log}
use Rattle.pp_rounds_law.proofs.Nowhere.{AreGoing, are_going, drop_unseen-going, give_up_asks-going, going_of}
use Rattle.pp_rounds_law.proofs.Logged.{all_logged, clients_numbered, clients_over, no_peer, no_seat, origins_numbered, origins_over}
use Rattle.pp_rounds_law.proofs.Numbered.{none_mapped}
use Rattle.pp_rounds_law.proofs.ShutAll.{AllOut, AllShut, IsQuiet, IsStopping, dropped_in, each_out, each_shut, ends, shut_in}
use Rattle.pp_rounds_law.proofs.There.{AreThere, there_walk}
use Rattle.pp_rounds_law.specs.Stops.{AllAreShut, MayStop, StopsAreTheLaws}

-- ---- a log that goes on so

abbrev AreCalm : Log → Type 0
AreCalm [] = ⊤
AreCalm (h ∷ hs) = (fails h ≡ false) × AreCalm hs

obeys_along : (terms : List Term) (hs before : Log) (s t : State) → AreCalm hs → Obeys terms s before → Leads hs s t → Obeys terms t (before ++ hs)
obeys_along terms [] before s t calm obeys is = subst (λ (log : Log). Obeys terms t log) (sym (append-nil before)) (subst (λ (u : State). Obeys terms u before) is obeys)
obeys_along terms (h ∷ hs) before s t calm obeys moves =
    subst (λ (log : Log). Obeys terms t log) (append_assoc before (h ∷ []) hs)
    (obeys_along terms hs (before ++ h ∷ []) (after s h) t calm.1 (obeys_by h obeys (record { may = moves.may; leads = refl }) (λ failed. absurd (let both : true ≡ false = sym failed ∙ calm.0 in cc both))) moves.holds)

calm_shut : (ns : List ℕ) → AreCalm (shut_in ns)
calm_shut [] = tt
calm_shut (n ∷ ns) = (refl, calm_shut ns)

calm_out : (ns : List ℕ) → AreCalm (dropped_in ns)
calm_out [] = tt
calm_out (n ∷ ns) = (refl, calm_out ns)

-- ---- where nobody is left, nothing asks

none_over : (es : List Exchange) → list_any is_over es ≡ false → (e : Exchange) → IsIn e es → is_over e ≡ false
none_over [] none e i = absurd i
none_over (d ∷ es) none e i = by (is_over d) refl none i (λ later j. none_over es later e j)
  where
    by : (b : Bool) → is_over d ≡ b → (b || list_any is_over es) ≡ false → IsIn e (d ∷ es) → (list_any is_over es ≡ false → IsIn e es → is_over e ≡ false) → is_over e ≡ false
    by true is both at rest = absurd (cc both)
    by false is both (inl same) rest = ap is_over same ∙ is
    by false is both (inr j) rest = rest both j

its_place : (e : Exchange) → e.asker ≡ None → is_over e ≡ false → is_some e.place ≡ true
its_place e nobody isnt = by e.place (sym (ap (λ (o : Option ℕ). not (is_some o || is_some e.place)) nobody) ∙ isnt)
  where
    by : (o : Option ℕ) → not (false || is_some o) ≡ false → is_some o ≡ true
    by (Some k) is = refl
    by None is = absurd (cc is)

-- ---- two phases on

module _ (terms : List Term) (number : ℕ → ℕ) (before log : Log) (x y : Moving) (s : State) (obeys : Obeys terms s before) (shows : ShowsTurn number none_leaves x.desk.peers x.desk.state s) (may : MayStop x s) (closes : ClosesOver x log y) where
  abbrev ns : List ℕ
  ns = numbers_of x.desk.state.seats.items

  abbrev ks : List ℕ
  ks = peer_numbers x.desk.peers

  sound : IsSoundTurn s
  sound = sound_turns terms s before obeys

  done : is_done s ≡ true
  done = ap (λ (p : Phase). is_done_with p s) may.at ∙ ap (λ (o : Option Due). not (is_some o)) may.done

  following : next s ≡ in_phase Following s
  unfolding next
  following = ap (λ (p : Phase). behind p s) may.at

  done_then : is_done (next s) ≡ true
  done_then = ap (λ (t : State). is_done t) following

  abbrev unseen : State
  unseen = drop_unseen (in_phase Connecting s)

  abbrev given : State
  given = give_up_asks unseen

  behind_it : frame false given ≡ frame false (in_phase Connecting s)
  behind_it = frame_of {all = false} (give_up_asks-stays unseen (drop_unseen-stays (in_phase Connecting s) (frame_stays refl)))

  stopped : s.is_stopped ≡ true
  stopped = sym shows.stopped ∙ may.stopped

  stopping : IsStopping given
  stopping = record {
    connecting = record { at = ap (λ (f : Frame). f.phase) behind_it; none = ap (λ (f : Frame). f.made_room_for) behind_it ∙ may.none };
    stopped = ap (λ (f : Frame). f.is_stopped) behind_it ∙ stopped;
  }

  none_ask : (t : State) → t.is_stopped ≡ true → fill t ≡ t
  unfolding fill
  none_ask t is = ap (λ (b : Bool). elim b as (λ c. State) [ true ↦ t | false ↦ each_client fill_for (map (λ c. c.number) t.clients) t ]) is

  connecting : next (next s) ≡ given
  unfolding next
  connecting = ap (λ (t : State). next t) following ∙ none_ask given stopping.stopped

  there : AreThere ns ks (view given)
  there =
      facts_of
      (give_up_asks-keeps (there_walk ns ks) unseen
      (drop_unseen-keeps (there_walk ns ks) (in_phase Connecting s)
      (holds (record { clients = clients_numbered number x.desk.state.name.items x.desk.state.seats.items s.clients shows.steps.shows.clients; conns = origins_numbered s x.desk.peers s.conns shows.steps.shows.conns }))))

  going : AreGoing given
  going =
      give_up_asks-going unseen
      (drop_unseen-going (in_phase Connecting s)
      (are_going (record { rise = sound.numbers.exchanges_rise; each = λ e i. record { one = none_over s.exchanges may.going e i; rests = λ none. sound.rests e i none } })))

  obeys_then : Obeys terms given before
  obeys_then = subst (λ (t : State). Obeys terms t before) connecting (obeys_silently (obeys_silently obeys done) done_then)

  -- ---- clients

  clients_rise : AreRising ns
  clients_rise = subst AreRising (clients_numbered number x.desk.state.name.items x.desk.state.seats.items s.clients shows.steps.shows.clients) sound.numbers.clients_rise

  conns_rise : AreRising ks
  conns_rise = subst AreRising (origins_numbered s x.desk.peers s.conns shows.steps.shows.conns) sound.numbers.conns_rise

  gone : AllShut ns ks given
  gone = each_shut ns ks given clients_rise stopping there going

  obeys_gone : Obeys terms gone.state (before ++ shut_in ns)
  obeys_gone = obeys_along terms (shut_in ns) before given gone.state (calm_shut ns) obeys_then gone.leads

  nobody : gone.state.clients ≡ []
  nobody = none_mapped client_number gone.state.clients gone.there.clients

  unasked : (e : Exchange) → IsIn e gone.state.exchanges → e.asker ≡ None
  unasked e i = by e.asker refl
    where
      by : (o : Option ℕ) → e.asker ≡ o → o ≡ None
      by None is = refl
      by (Some n) is =
          let its : HasAsker gone.state e n = (sound_turns terms gone.state (before ++ shut_in ns) obeys_gone).askers e n i is in
          absurd (let both : None ≡ Some its.asker = sym (ap (λ (cs : List Client). find (λ (c : Client). c.number == n) cs) nobody) ∙ its.there in cc both)

  quiet : IsQuiet gone.state
  quiet = record { stopping = gone.stopping; clients = nobody; placed = λ e i. its_place e (unasked e i) ((going_of gone.going).each e i).one }

  -- ---- origins

  out : AllOut ks gone.state
  out = each_out ks gone.state conns_rise quiet gone.there.conns

  log_is : log ≡ shut_in ns ++ dropped_in ks
  log_is =
      closes.log_is
      ∙ ap₂ (λ (is : List ℕ) (b : Bool). closings (is ++ over_peers b x.desk.peers) x.links) (clients_over x.desk.state may.stopped may.awake) may.stopped
      ∙ ap (λ (js : List ℕ). closings (ns ++ js) x.links) (origins_over x.desk.peers)
      ∙ all_logged ns ks x.links clients_rise conns_rise may.clients may.origins

  leads : Leads log given out.state
  leads = subst (λ (hs : Log). Leads hs given out.state) (sym log_is) (lead_joined (shut_in ns) (dropped_in ks) given gone.state out.state gone.leads out.leads)

  nobody_there : out.state.conns ≡ []
  nobody_there = none_mapped conn_number out.state.conns out.conns

  all_shut : AllAreShut terms before log s
  all_shut = record {
    then = out.state;
    leads = record { done = done; holds = record { done = done_then; holds = subst (λ (t : State). Leads log t out.state) (sym connecting) leads } };
    obeys =
        subst (λ (hs : Log). Obeys terms out.state (before ++ hs)) (sym log_is)
        (subst (λ (l : Log). Obeys terms out.state l) (append_assoc before (shut_in ns) (dropped_in ks))
        (obeys_along terms (dropped_in ks) (before ++ shut_in ns) gone.state out.state (calm_out ks) obeys_gone out.leads));
    clients = out.quiet.clients;
    conns = nobody_there;
    over = ends out.state out.quiet nobody_there;
  }

pub stops : StopsAreTheLaws
stops terms number before log x y s obeys shows may closes = (
  all_shut terms number before log x y s obeys shows may closes,
  record {
    seats = closes.seats ∙ no_seat x.desk.state may.stopped may.awake;
    peers = closes.peers ∙ ap (λ (b : Bool). filter (goes_on b) x.desk.peers) may.stopped ∙ no_peer x.desk.peers;
  },
)
