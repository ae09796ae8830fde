-- All decisions lead on, one behind the other.
use Rattle.std.proofs.Common.{◌≡◌, refl, sym, subst, ap, ◌∙◌, ℕ, zero, suc, Bool, true, false, List, [], ◌∷◌, ◌++◌, append_assoc, append-nil, Option, Some, None, option_map}
use Rattle.std.specs.Prelude.{option_and_then, slice_get, ⊤}
use Rattle.pp_turns_law.specs.Sides.{MayClose}
use Rattle.pp_turns_law.proofs.Sitting.{is_at}
use Rattle.pp_turns_law.proofs.StandingOn.{find_at}
use Rattle.pp_deciding_law.proofs.Behind.{stand}
use Rattle.pp_deciding_law.proofs.CutBehind.{cut_stand}
use Rattle.pp_deciding_law.proofs.Cuts.{cuts_lead}
use Rattle.pp_deciding_law.proofs.Found.{first_keeps, found_at, none_next, same_place}
use Rattle.pp_deciding_law.proofs.Leads.{leads}
use Rattle.pp_deciding_law.specs.Behind.{IsBehind}
use Rattle.pp_deciding_law.specs.Cuts.{CutsAsTheLaw, IsBehindCut, IsCutNext, behind_cut}
use Rattle.pp_deciding_law.specs.Stands.{NoneIsNext, StandsBehind}
use Rattle.pp_deciding_law.specs.Takes.{IsNext, RestsOn, TakesAsTheLaw, behind_taken}
use Rattle.pp_desk.specs.Closings.{Sides, closed_client, sides}
use Rattle.pp_desk.specs.declared.desk.Desk.{Desk}
use Rattle.pp_due.specs.Due.{due_at, due_of}
use Rattle.pp_due.specs.Entering.{FirstDue, is_due_at, key_at}
use Rattle.pp_flow_law.specs.Tables.{none_leaves}
use Rattle.pp_law.specs.After.{after}
use Rattle.pp_law.specs.Connections.{client}
use Rattle.pp_law.specs.State.{State, Client, Term}
use Rattle.pp_laws_turn.proofs.Laws.{sound_turns}
use Rattle.pp_laws_turn.specs.SoundTurn.{IsSoundTurn}
use Rattle.pp_obeys.proofs.Happenings.{obeys_by}
use Rattle.pp_obeys.proofs.Moving.{lead_joined}
use Rattle.pp_obeys.specs.Moves.{Leads}
use Rattle.pp_obeys.specs.Failures.{fails}
use Rattle.pp_obeys.specs.Obeys.{Obeys}
use Rattle.pp_objects.specs.Instances.{Instance}
use Rattle.pp_peers.specs.declared.peers.Peer.{Peer}
use Rattle.pp_proxy.specs.Deciding.{Decides, TakesOne}
use Rattle.pp_proxy.specs.Moving.{Moving, with_state}
use Rattle.pp_proxy.specs.Taking.{IsTaken, TakesDueOf, decision_log, due_log_of, who_at}
use Rattle.pp_seats.specs.declared.due.Due.{Due as SeatDue}
use Rattle.pp_seats.specs.declared.due.Due.TheVariants.{Decide, CutOff}
use Rattle.pp_seats.specs.declared.seat.Seat.{Seat}
use Rattle.pp_state.specs.Ends.{parts}
use Rattle.pp_state.specs.declared.state.State.{State as Turn}
use Rattle.pp_steps.specs.Evicting.{row_in_way, row_notes}
use Rattle.pp_store.specs.Kept.{KeptMap}
use Rattle.pp_turns_law.proofs.First.{IsShownAt, seat_shown}
use Rattle.pp_turns_law.specs.Firsts.{FirstDueInMemory, HasRowInMemory, IsDueInMemory}
use Rattle.pp_turns_law.specs.Turns.{ShowsTurn}
use Rattle.pp_world.specs.Log.{Log}
use Rattle.pp_world.specs.declared.happening.Happening.{Happening}
use Rattle.pp_world.specs.declared.happening.Happening.TheVariants.{Noted}
use Rattle.pp_world.specs.declared.note.Cause.{Cause}
use Rattle.pp_world.specs.declared.note.Decision.{Decision}
use Rattle.pp_world.specs.declared.note.Remark.TheVariants.{Cut, Taken}
use Rattle.pp_rounds_law.proofs.Astray.{decided_well, first_given, found_given}
use Rattle.pp_rounds_law.proofs.Coming.{brief_as, brief_before, brief_front, brief_then}
use Rattle.pp_rounds_law.specs.Coming.{IsBrief}
use Rattle.pp_rounds_law.specs.Decisions.{AllDecided, AllLead, IsMoment, Passes, Supplies}

-- ---- a log that goes on so

abbrev AreCalm : Log → Type 0
AreCalm [] = ⊤
AreCalm (h ∷ hs) = (fails h ≡ false) × AreCalm hs

obeys_along : (terms : List Term) (hs before : Log) (s t : State) → AreCalm hs → Obeys terms s before → Leads hs s t → Obeys terms t (before ++ hs)
obeys_along terms [] before s t calm obeys is = subst (λ (log : Log). Obeys terms t log) (sym (append-nil before)) (subst (λ (u : State). Obeys terms u before) is obeys)
obeys_along terms (h ∷ hs) before s t calm obeys moves =
    subst (λ (log : Log). Obeys terms t log) (append_assoc before (h ∷ []) hs)
    (obeys_along terms hs (before ++ h ∷ []) (after s h) t calm.1 (obeys_by h obeys (record { may = moves.may; leads = refl }) (λ failed. absurd (let both : true ≡ false = sym failed ∙ calm.0 in cc both))) moves.holds)

noted_calm : (o : Option Instance) (h : Happening) → fails h ≡ false → AreCalm (row_notes o ++ h ∷ [])
noted_calm None h calm = (calm, tt)
noted_calm (Some x) h calm = (refl, (calm, tt))

-- ---- whoever is found is there

found_there : (shelf : KeptMap) (places : List ℕ) (p q : Turn) (i : ℕ) (d : SeatDue) → FirstDueInMemory shelf places p q (Some (i, d)) → slice_get q.seats.items i ≡ None → ⊥
unfolding FirstDueInMemory
found_there shelf [] p q i d first none = cc first.1
found_there shelf (j ∷ places) p q i d (now, due, its, rest) none = by (λ more. found_there shelf places now q i d more none) due its rest
  where
    nobody : (e : SeatDue) → q ≡ now → found_at i d ≡ found_at j e → due_at j now ≡ None
    nobody e same is =
        ap (λ (o : Option Seat). option_and_then (due_of now) o)
        (ap (λ (r : Turn). slice_get r.seats.items j) (sym same) ∙ ap (λ (k : ℕ). slice_get q.seats.items k) (sym (same_place i j d e is).0) ∙ none)

    taken_by : (e : SeatDue) (b : Bool) → (elim b as (λ c. Type 0) [ true ↦ HasRowInMemory shelf (key_at j p) p now × (let o : Option SeatDue = Some e in o ≡ due_at j now) | false ↦ (now ≡ p) × (let o : Option SeatDue = Some e in o ≡ None) ]) → q ≡ now → found_at i d ≡ found_at j e → ⊥
    taken_by e true one same is = absurd (let both : Some e ≡ None = one.1 ∙ nobody e same is in cc both)
    taken_by e false one same is = absurd (cc one.1)

    by : (FirstDueInMemory shelf places now q (found_at i d) → ⊥) → (o : Option SeatDue) → IsDueInMemory shelf j p now o → (elim o as (λ c. Type 0) [ Some e ↦ (q ≡ now) × (found_at i d ≡ found_at j e) | None ↦ FirstDueInMemory shelf places now q (Some (i, d)) ]) → ⊥
    by later (Some e) one here = taken_by e (is_due_at shelf j p) one here.0 here.1
    by later None one more = later more

-- ---- one

record Stepped (terms : List Term) (most : ℕ) (before : Log) (shelf : KeptMap) (I : Turn → State → Type 0) (y : Moving) (log : Log) (s : State) : Type 0 where
  then : State
  leads_on : Leads log s then
  moment : IsMoment terms most (before ++ log) y.desk.peers shelf y.desk.state then
  holds : I y.desk.state then

-- the client of the law at a place
record IsClientAt (s : State) (q : Turn) (i : ℕ) : Type 0 where
  seat : Seat
  here : slice_get q.seats.items i ≡ Some seat
  own : Client
  there : client s seat.client.id ≡ Some own

module _ (terms : List Term) (most : ℕ) (before : Log) (shelf : KeptMap) (I : Turn → State → Type 0) (supplies : Supplies terms most shelf I) (s : State) (obeys : Obeys terms s before) (peers : List Peer) (p q : Turn) (stands : StandsBehind peers shelf p s) (holds : I p s) where
  sound : IsSoundTurn s
  sound = sound_turns terms s before obeys

  client_at : (i : ℕ) (d : SeatDue) → FirstDueInMemory shelf p.awake.items p q (Some (i, d)) → IsClientAt s q i
  client_at i d first = by (slice_get q.seats.items i) refl
    where
      before_it : slice_get p.seats.items i ≡ slice_get q.seats.items i
      before_it = ap (λ (r : Turn). slice_get r.seats.items i) (sym (first_keeps shelf p.awake.items p q (Some (i, d)) first))

      by : (o : Option Seat) → slice_get q.seats.items i ≡ o → IsClientAt s q i
      by None none = absurd (found_there shelf p.awake.items p q i d first none)
      by (Some seat) here =
          let turn : ShowsTurn stands.number none_leaves peers p s = stands.stands.turn in
          let one : IsShownAt stands.number p.name.items p.seats.items s.clients i = seat_shown stands.number p.name.items p.seats.items s.clients i seat turn.steps.shows.clients (before_it ∙ here) in
          record {
            seat = seat;
            here = here;
            own = one.client;
            there = find_at stands.number p.name.items seat.client.id i p.seats.items s.clients one.client turn.steps.shows.clients (is_at i p.seats.items seat turn.steps.order (before_it ∙ here)) one.there;
          }

  module _ (x y : Moving) (log : Log) (i : ℕ) (its_peers : x.desk.peers ≡ peers) (brief : IsBrief most (before ++ log)) (well : y.desk.state.is_astray ≡ false) where
    moment : IsMoment terms most before x.desk.peers shelf p s
    moment = record { obeys = obeys; brief = brief_before most before log brief; stands = subst (λ (ps : List Peer). StandsBehind ps shelf p s) (sym its_peers) stands }

    decided : (due : Decision) → FirstDueInMemory shelf p.awake.items p x.desk.state (Some (i, Decide due)) → IsClientAt s x.desk.state i → TakesOne i (Decide due) x log y → Stepped terms most before shelf I y log s
    decided due first at one =
        let next : IsNext shelf i due p x.desk.state s at.seat at.own = record { first = first; here = at.here; there = at.there } in
        let rests : RestsOn i due p x.desk.state s at.seat at.own = supplies.rests before i due p x y log s at.seat at.own moment holds next one well in
        let who : who_at i x.desk.state ≡ Some (at.seat.client.id, at.seat.index) = ap (λ (o : Option Seat). option_map (λ (z : Seat). (z.client.id, z.index)) o) at.here in
        let is : TakesDueOf (Some (at.seat.client.id, at.seat.index)) i (Decide due) x.desk y.desk = subst (λ (o : Option (ℕ × ℕ)). TakesDueOf o i (Decide due) x.desk y.desk) who one.is in
        let took : IsTaken i due x.desk.state (parts y.desk.state) = subst (λ (d : Decision). IsTaken i d x.desk.state (parts y.desk.state)) rests.affords is.0 in
        let log_is : log ≡ row_notes (row_in_way due i x.desk.state) ++ Noted (Taken at.seat.client.id at.seat.index due) ∷ [] =
        one.log_is ∙ ap (λ (o : Option (ℕ × ℕ)). due_log_of o i (Decide due) x.desk.state) who ∙ ap (λ (d : Decision). decision_log (at.seat.client.id, at.seat.index) i d x.desk.state) rests.affords in
        let on : (later : ℕ → ℕ) × TakesAsTheLaw later i due peers x.desk.state s at.seat at.own took.between =
        leads stands.number peers shelf i due p x.desk.state s at.seat at.own took.between stands.stands sound next rests took.takes in
        let calm : AreCalm (row_notes (row_in_way due i x.desk.state) ++ Noted (Taken at.seat.client.id at.seat.index due) ∷ []) = noted_calm (row_in_way due i x.desk.state) (Noted (Taken at.seat.client.id at.seat.index due)) refl in
        let behind : IsBehind x.desk.state y.desk.state took.between = record { is = took.is; rest = ap (λ (d : Desk). d.state) one.rest } in
        let leads_on : Leads log s (behind_taken at.seat.client.id due s) = subst (λ (hs : Log). Leads hs s (behind_taken at.seat.client.id due s)) (sym log_is) on.1.leads in
        let obeys_then : Obeys terms (behind_taken at.seat.client.id due s) (before ++ log) =
        obeys_along terms log before s (behind_taken at.seat.client.id due s) (subst (λ (hs : Log). AreCalm hs) (sym log_is) calm) obeys leads_on in
        let moment_then : IsMoment terms most (before ++ log) y.desk.peers shelf y.desk.state (behind_taken at.seat.client.id due s) =
        record {
          obeys = obeys_then;
          brief = brief;
          stands = subst (λ (ps : List Peer). StandsBehind ps shelf y.desk.state (behind_taken at.seat.client.id due s)) (sym (is.1 ∙ its_peers))
              (stand stands.number peers shelf i due p x.desk.state y.desk.state s at.seat at.own took.between stands.stands sound next rests took.takes behind one.bounded (sound_turns terms (behind_taken at.seat.client.id due s) (before ++ log) obeys_then));
        } in
        record {
          then = behind_taken at.seat.client.id due s;
          leads_on = leads_on;
          moment = moment_then;
          holds = supplies.taken before i due p x y log s at.seat at.own moment holds next one well moment_then;
        }

    cut_off : (cause : Cause) → FirstDueInMemory shelf p.awake.items p x.desk.state (Some (i, CutOff cause)) → IsClientAt s x.desk.state i → TakesOne i (CutOff cause) x log y → Stepped terms most before shelf I y log s
    cut_off cause first at one =
        let next : IsCutNext shelf i cause p x.desk.state s at.seat at.own = record { first = first; here = at.here; there = at.there } in
        let who : who_at i x.desk.state ≡ Some (at.seat.client.id, at.seat.index) = ap (λ (o : Option Seat). option_map (λ (z : Seat). (z.client.id, z.index)) o) at.here in
        let is : sides y.desk ≡ closed_client i (sides x.desk) = subst (λ (o : Option (ℕ × ℕ)). TakesDueOf o i (CutOff cause) x.desk y.desk) who one.is in
        let log_is : log ≡ Noted (Cut at.seat.client.id cause) ∷ [] = one.log_is ∙ ap (λ (o : Option (ℕ × ℕ)). due_log_of o i (CutOff cause) x.desk.state) who in
        let orderly : MayClose s = supplies.closes before x.desk.peers p s moment holds in
        let on : CutsAsTheLaw i cause peers x.desk.state s at.seat = cuts_lead stands.number peers shelf i cause p x.desk.state s at.seat at.own stands.stands sound orderly next in
        let behind : IsBehindCut i peers y.desk.peers x.desk.state y.desk.state =
        record { is = is ∙ ap (λ (ps : List Peer). closed_client i (let z : Sides = record { parts = parts x.desk.state; peers = ps } in z)) its_peers; rest = ap (λ (d : Desk). d.state) one.rest } in
        let leads_on : Leads log s (behind_cut at.seat.client.id s) = subst (λ (hs : Log). Leads hs s (behind_cut at.seat.client.id s)) (sym log_is) on.leads in
        let obeys_then : Obeys terms (behind_cut at.seat.client.id s) (before ++ log) = obeys_along terms log before s (behind_cut at.seat.client.id s) (subst (λ (hs : Log). AreCalm hs) (sym log_is) (refl, tt)) obeys leads_on in
        let moment_then : IsMoment terms most (before ++ log) y.desk.peers shelf y.desk.state (behind_cut at.seat.client.id s) =
        record {
          obeys = obeys_then;
          brief = brief;
          stands =
              cut_stand stands.number peers y.desk.peers shelf i cause p x.desk.state y.desk.state s at.seat at.own stands.stands sound orderly next behind one.bounded
              (sound_turns terms (behind_cut at.seat.client.id s) (before ++ log) obeys_then);
        } in
        record {
          then = behind_cut at.seat.client.id s;
          leads_on = leads_on;
          moment = moment_then;
          holds = supplies.cut before i cause p x y log s at.seat at.own moment holds next one well moment_then;
        }

    stepped : (due : SeatDue) → FirstDueInMemory shelf p.awake.items p x.desk.state (Some (i, due)) → IsClientAt s x.desk.state i → TakesOne i due x log y → Stepped terms most before shelf I y log s
    stepped (Decide d) first at one = decided d first at one
    stepped (CutOff cause) first at one = cut_off cause first at one

-- ---- all

abbrev Then : ℕ → KeptMap → Moving → Turn → Log → Moving → Bool → Option (ℕ × SeatDue) → Type 0
Then more shelf x found log y any due = elim due [
  | None ↦ (log ≡ []) × (y ≡ with_state found x) × (any ≡ false)
  | Some d ↦ (next : Moving) × (first : Log) × (rest : Log) × (later : Bool) × (log ≡ first ++ rest) × TakesOne d.0 d.1 (with_state found x) first next × Decides more shelf next rest y later × (any ≡ true)
]

abbrev Onward : List Term → ℕ → KeptMap → (Turn → State → Type 0) → ℕ → Moving → Type 0
Onward terms most shelf I more y = (before : Log) (x : Moving) (log : Log) (any : Bool) (s : State) → Obeys terms s before → IsBrief most (before ++ log) → StandsBehind x.desk.peers shelf x.desk.state s → I x.desk.state s → Decides more shelf x log y any → AllDecided shelf I y log s

-- one alone
step_on : (terms : List Term) (most : ℕ) (shelf : KeptMap) (I : Turn → State → Type 0) → Supplies terms most shelf I → (before : Log) (x : Moving) (s : State) → Obeys terms s before → StandsBehind x.desk.peers shelf x.desk.state s → I x.desk.state s → (found : Turn) (d : ℕ × SeatDue) (next : Moving) (one : Log)
    → FirstDueInMemory shelf x.desk.state.awake.items x.desk.state found (Some d) → TakesOne d.0 d.1 (with_state found x) one next → IsBrief most (before ++ one) → next.desk.state.is_astray ≡ false → Stepped terms most before shelf I next one s
step_on terms most shelf I supplies before x s obeys stands holds found d next one given takes brief well =
    stepped terms most before shelf I supplies s obeys x.desk.peers x.desk.state found stands holds (with_state found x) next one d.0 refl brief well d.1 given (client_at terms most before shelf I supplies s obeys x.desk.peers x.desk.state found stands holds d.0 d.1 given) takes

pub decides_one : (terms : List Term) (most : ℕ) (shelf : KeptMap) (I : Turn → State → Type 0) → Supplies terms most shelf I → (before : Log) (x : Moving) (s : State) → Obeys terms s before → StandsBehind x.desk.peers shelf x.desk.state s → I x.desk.state s → (found : Turn) (d : ℕ × SeatDue) (next : Moving) (one : Log)
    → FirstDueInMemory shelf x.desk.state.awake.items x.desk.state found (Some d) → TakesOne d.0 d.1 (with_state found x) one next → IsBrief most (before ++ one) → next.desk.state.is_astray ≡ false → AllDecided shelf I next one s
decides_one terms most shelf I supplies before x s obeys stands holds found d next one given takes brief well =
    let step : Stepped terms most before shelf I next one s = step_on terms most shelf I supplies before x s obeys stands holds found d next one given takes brief well in
    record { then = step.then; leads = step.leads_on; stands = step.moment.stands; holds = step.holds }

-- nothing is found
pub decides_none : (terms : List Term) (most : ℕ) (shelf : KeptMap) (I : Turn → State → Type 0) → Supplies terms most shelf I → (before : Log) (x : Moving) (s : State) → Obeys terms s before → IsBrief most before → StandsBehind x.desk.peers shelf x.desk.state s → I x.desk.state s → (found : Turn)
    → FirstDueInMemory shelf x.desk.state.awake.items x.desk.state found None → found.is_astray ≡ false → NoneIsNext x.desk.peers shelf found s × I found s
decides_none terms most shelf I supplies before x s obeys brief stands holds found given well =
    let none : NoneIsNext x.desk.peers shelf found s = none_next stands.number x.desk.peers shelf x.desk.state found s stands.stands (sound_turns terms s before obeys) given in
    (none, supplies.none before x.desk.peers x.desk.state found s (record { obeys = obeys; brief = brief; stands = stands }) holds given well (record { obeys = obeys; brief = brief; stands = none.behind }))

one_more : (terms : List Term) (most : ℕ) (shelf : KeptMap) (I : Turn → State → Type 0) (more : ℕ) (y : Moving) → Supplies terms most shelf I → y.desk.state.is_astray ≡ false → Onward terms most shelf I more y → (before : Log) (x : Moving) (log : Log) (any : Bool) (s : State) → Obeys terms s before → IsBrief most (before ++ log) → StandsBehind x.desk.peers shelf x.desk.state s → I x.desk.state s
    → (found : Turn) (due : Option (ℕ × SeatDue)) → FirstDue shelf x.desk.state.awake.items x.desk.state found due → Then more shelf x found log y any due → AllDecided shelf I y log s
one_more terms most shelf I more y supplies well onward before x log any s obeys brief stands holds found None looked here =
    let found_well : found.is_astray ≡ false = sym (ap (λ (z : Moving). z.desk.state.is_astray) here.1) ∙ well in
    let none : NoneIsNext x.desk.peers shelf found s × I found s =
    decides_none terms most shelf I supplies before x s obeys (brief_before most before log brief) stands holds found (first_given shelf x.desk.state.awake.items x.desk.state found None looked found_well) found_well in
    subst (λ (z : Moving). AllDecided shelf I z log s) (sym here.1)
    (subst (λ (hs : Log). AllDecided shelf I (with_state found x) hs s) (sym here.0) (record { then = s; leads = refl; stands = none.0.behind; holds = none.1 }))
one_more terms most shelf I more y supplies well onward before x log any s obeys brief stands holds found (Some d) looked (next, one, others, later, is, takes, more_of, any_is) =
    let all : IsBrief most (before ++ (one ++ others)) = brief_as most before log (one ++ others) is brief in
    let step : Stepped terms most before shelf I next one s =
    step_on terms most shelf I supplies before x s obeys stands holds found d next one (found_given more shelf x next y one others later found d looked takes more_of well) takes (brief_front most before one others all) (decided_well more shelf next y others later more_of well) in
    let last : AllDecided shelf I y others step.then = onward (before ++ one) next others later step.then step.moment.obeys (brief_then most before one others all) step.moment.stands step.holds more_of in
    record {
      then = last.then;
      leads = subst (λ (hs : Log). Leads hs s last.then) (sym is) (lead_joined one others s step.then last.then step.leads_on last.leads);
      stands = last.stands;
      holds = last.holds;
    }

decides_on : (terms : List Term) (most : ℕ) (shelf : KeptMap) (I : Turn → State → Type 0) (more : ℕ) (y : Moving) → Supplies terms most shelf I → y.desk.state.is_astray ≡ false → Onward terms most shelf I more y
unfolding Decides
decides_on terms most shelf I zero y supplies well before x log any s obeys brief stands holds it = absurd (let both : true ≡ false = sym (ap (λ (z : Moving). z.desk.state.is_astray) it.1) ∙ well in cc both)
decides_on terms most shelf I (suc more) y supplies well before x log any s obeys brief stands holds (found, due, first, rest) =
    one_more terms most shelf I more y supplies well (decides_on terms most shelf I more y supplies well) before x log any s obeys brief stands holds found due first rest

-- whatever holds from one to the next
pub decides_all : (terms : List Term) (most : ℕ) (before : Log) (shelf : KeptMap) (I : Turn → State → Type 0) (more : ℕ) (x y : Moving) (log : Log) (any : Bool) (s : State) → Supplies terms most shelf I → Obeys terms s before → IsBrief most (before ++ log) → StandsBehind x.desk.peers shelf x.desk.state s → I x.desk.state s → Decides more shelf x log y any
    → y.desk.state.is_astray ≡ false → AllDecided shelf I y log s
decides_all terms most before shelf I more x y log any s supplies obeys brief stands holds it well = decides_on terms most shelf I more y supplies well before x log any s obeys brief stands holds it

pub all_lead : AllLead
all_lead terms most before shelf test more x y log any s supplies obeys brief stands holds it well = decides_all terms most before shelf (Passes test) more x y log any s supplies obeys brief stands holds it well
