-- At Stop a turn decides, and closes all.
use Rattle.std.proofs.Common.{◌≡◌, refl, sym, subst, ap, ◌∙◌, ℕ, zero, suc, Bool, true, false, length, List, [], ◌∷◌, ◌++◌, Option, Some, None}
use Rattle.pp_turns_law.specs.Log.{AreLinked}
use Rattle.pp_deciding_law.proofs.Found.{first_keeps}
use Rattle.pp_deciding_law.specs.Stands.{NoneIsNext, StandsBehind}
use Rattle.pp_desk.specs.Closings.{peer_numbers}
use Rattle.pp_due.specs.Entering.{FirstDue}
use Rattle.pp_law.specs.Due.{first_due}
use Rattle.pp_law.specs.Phases.{next as behind}
use Rattle.pp_law.specs.State.{State, Term}
use Rattle.pp_links.specs.Links.{Link}
use Rattle.pp_obeys.specs.Obeys.{Obeys}
use Rattle.pp_places_law.specs.Closings.{AreOpen}
use Rattle.pp_proxy.specs.Closing.{ClosesOver}
use Rattle.pp_proxy.specs.Deciding.{Decides, TakesOne}
use Rattle.pp_proxy.specs.Moving.{Moving, with_state}
use Rattle.pp_proxy.specs.Settling.{GoesOn, Settles}
use Rattle.pp_desk.specs.declared.desk.Desk.{Desk}
use Rattle.pp_rounds_law.proofs.Astray.{decided_well, first_given, found_given, stays_stopped}
use Rattle.pp_rounds_law.proofs.Coming.{affords_front, affords_then, comes_by, comes_silently, comes_then, enough_of, none_fail, brief_as, brief_before, brief_front, brief_then}
use Rattle.pp_rounds_law.proofs.Went.{Went, went_found, went_one, went_then}
use Rattle.pp_rounds_law.specs.Coming.{Affords, ComesTo, IsBrief}
use Rattle.pp_rounds_law.proofs.Decisions.{decides_none, decides_one}
use Rattle.pp_rounds_law.specs.Decisions.{AllDecided, IsMoment, Passes}
use Rattle.pp_seats.specs.declared.due.Due.{Due}
use Rattle.pp_seats.specs.declared.seat.Seat.{Seat}
use Rattle.pp_rounds_law.proofs.StopEnds.{stops}
use Rattle.pp_rounds_law.specs.Stops.{AllAreShut, MayStop, NobodyIsLeft}
use Rattle.pp_state.specs.Ends.{numbers_of}
use Rattle.pp_state.specs.Numbers.{places}
use Rattle.pp_state.specs.declared.state.State.{State as Turn}
use Rattle.pp_store.specs.Kept.{KeptMap}
use Rattle.pp_turns_law.specs.Firsts.{FirstDueInMemory}
use Rattle.pp_world.specs.Log.{Log}
use Rattle.pp_rounds_law.proofs.Unturned.{DecidesAlone, alone}
use Rattle.pp_rounds_law.specs.Settles.{HasStopped, StandsAtStop, StopSupplies, StopsLead}

-- ---- what stands there, behind each

same_length : (xs ys : List Seat) → numbers_of xs ≡ numbers_of ys → length xs ≡ length ys
same_length [] [] is = refl
same_length [] (y ∷ ys) is = absurd (cc is)
same_length (x ∷ xs) [] is = absurd (cc is)
same_length (x ∷ xs) (y ∷ ys) is = ap (λ (n : ℕ). suc n) (same_length xs ys (rest (numbers_of xs) (numbers_of ys) is))
  where
    rest : (ms ns : List ℕ) → x.client.id ∷ ms ≡ y.client.id ∷ ns → ms ≡ ns
    rest ms ns both = cc both

stands_on : (shelf : KeptMap) (x y : Moving) (s t : State) → StandsAtStop shelf x s → Went x y → StandsBehind y.desk.peers shelf y.desk.state t → StandsAtStop shelf y t
stands_on shelf x y s t before went behind = record {
  behind = behind;
  stopped = went.stopped ∙ before.stopped;
  awake = ap (λ awake. awake.items) went.awake ∙ before.awake ∙ ap places (same_length x.desk.state.seats.items y.desk.state.seats.items (sym went.numbers));
  clients = subst (λ (ns : List ℕ). AreOpen ns y.links) (sym went.numbers) (subst (λ (links : List Link). AreOpen (numbers_of x.desk.state.seats.items) links) (sym went.links) before.clients);
  origins = subst (λ (ns : List ℕ). AreLinked ns y.links) (sym went.peers) (subst (λ (links : List Link). AreLinked (peer_numbers x.desk.peers) links) (sym went.links) before.origins);
  away = went.away ∙ before.away;
}

-- ---- one behind the other

abbrev Then : ℕ → KeptMap → Moving → Turn → Log → Moving → Bool → Option (ℕ × Due) → Type 0
Then more shelf x found log y any due = elim due [
  | None ↦ (log ≡ []) × (y ≡ with_state found x) × (any ≡ false)
  | Some d ↦ (next : Moving) × (first : Log) × (rest : Log) × (later : Bool) × (log ≡ first ++ rest) × TakesOne d.0 d.1 (with_state found x) first next × Decides more shelf next rest y later × (any ≡ true)
]

module _ (terms : List Term) (most : ℕ) (shelf : KeptMap) (I : Turn → State → Type 0) (supplies : StopSupplies terms most shelf I) where
  record AreDecided (before : Log) (y : Moving) (log : Log) (s : State) : Type 0 where
    then : State
    comes : ComesTo terms before log s then
    stands : StandsAtStop shelf y then
    holds : I y.desk.state then
    none : first_due then ≡ None

  nothing : (before : Log) (y z : Moving) (log : Log) (s : State) → Obeys terms s before → StandsAtStop shelf z s → I z.desk.state s → y ≡ z → log ≡ [] → first_due s ≡ None → AreDecided before y log s
  nothing before y z log s obeys stands holds same none nothing_due = record {
    then = s;
    comes = subst (λ (hs : Log). ComesTo terms before hs s s) (sym none) (comes_by terms [] before s s (none_fail s 0 refl) obeys refl);
    stands = subst (λ (w : Moving). StandsAtStop shelf w s) (sym same) stands;
    holds = subst (λ (w : Moving). I w.desk.state s) (sym same) holds;
    none = nothing_due;
  }

  abbrev Onward : ℕ → Type 0
  Onward more = (before : Log) (x y : Moving) (log : Log) (any : Bool) (s : State) → Obeys terms s before → IsBrief most (before ++ log) → Affords s log → StandsAtStop shelf x s → I x.desk.state s → Decides more shelf x log y any → y.desk.state.is_astray ≡ false → AreDecided before y log s

  step : (more : ℕ) → Onward more → (before : Log) (x y : Moving) (log : Log) (any : Bool) (s : State) → Obeys terms s before → IsBrief most (before ++ log) → Affords s log → StandsAtStop shelf x s → I x.desk.state s → (found : Turn) (due : Option (ℕ × Due)) → FirstDue shelf x.desk.state.awake.items x.desk.state found due
      → Then more shelf x found log y any due → y.desk.state.is_astray ≡ false → AreDecided before y log s
  step more onward before x y log any s obeys brief affords stands holds found None looked here well =
      let found_well : found.is_astray ≡ false = sym (ap (λ (z : Moving). z.desk.state.is_astray) here.1) ∙ well in
      let given : FirstDueInMemory shelf x.desk.state.awake.items x.desk.state found None = first_given shelf x.desk.state.awake.items x.desk.state found None looked found_well in
      let none : NoneIsNext x.desk.peers shelf found s × I found s = decides_none terms most shelf I supplies.decides before x s obeys (brief_before most before log brief) stands.behind holds found given found_well in
      nothing before y (with_state found x) log s obeys (stands_on shelf x (with_state found x) s s stands (went_found x found (first_keeps shelf x.desk.state.awake.items x.desk.state found None given)) none.0.behind)
      none.1 here.1 here.0 none.0.none
  step more onward before x y log any s obeys brief affords stands holds found (Some d) looked (next, first, rest, later, is, takes, decides, any_is) well =
      let given : FirstDueInMemory shelf x.desk.state.awake.items x.desk.state found (Some d) = found_given more shelf x next y first rest later found d looked takes decides well in
      let all : IsBrief most (before ++ (first ++ rest)) = brief_as most before log (first ++ rest) is brief in
      let one : AllDecided shelf I next first s = decides_one terms most shelf I supplies.decides before x s obeys stands.behind holds found d next first given takes (brief_front most before first rest all) (decided_well more shelf next y rest later decides well) in
      let both : Affords s (first ++ rest) = subst (λ (hs : Log). Affords s hs) is affords in
      let came : ComesTo terms before first s one.then = comes_by terms first before s one.then (enough_of s first (affords_front s first rest both)) obeys one.leads in
      let went : Went x next = went_then x (with_state found x) next (went_found x found (first_keeps shelf x.desk.state.awake.items x.desk.state found (Some d) given)) (went_one d.0 d.1 (with_state found x) first next takes) in
      let last : AreDecided (before ++ first) y rest one.then =
      onward (before ++ first) next y rest later one.then came.obeys (brief_then most before first rest all) (affords_then terms before first rest s one.then came both) (stands_on shelf x next s one.then stands went one.stands) one.holds decides well in
      record {
        then = last.then;
        comes = subst (λ (hs : Log). ComesTo terms before hs s last.then) (sym is) (comes_then terms before first rest s one.then last.then came last.comes);
        stands = last.stands;
        holds = last.holds;
        none = last.none;
      }

  decides_stopped : (more : ℕ) → Onward more
  unfolding Decides
  decides_stopped zero before x y log any s obeys brief affords stands holds it well = absurd (let both : true ≡ false = sym (ap (λ (z : Moving). z.desk.state.is_astray) it.1) ∙ well in cc both)
  decides_stopped (suc more) before x y log any s obeys brief affords stands holds (found, due, first, rest) well = step more (decides_stopped more) before x y log any s obeys brief affords stands holds found due first rest well

  -- ---- and all are closed

  module _ (before : Log) (x y : Moving) (log : Log) (s : State) (obeys : Obeys terms s before) (brief : IsBrief most (before ++ log)) (afford : Affords s log) (stands : StandsAtStop shelf x s) (holds : I x.desk.state s) (settles : Settles shelf x log y) (well : y.desk.state.is_astray ≡ false) where
    decides : DecidesAlone shelf x settles.first settles.between
    decides = alone shelf x settles.between settles.first settles.any stands.away settles.decides

    affords : Affords s (settles.first ++ settles.rest)
    affords = subst (λ (hs : Log). Affords s hs) settles.log_is afford

    brief_first : IsBrief most (before ++ settles.first)
    brief_first = brief_front most before settles.first settles.rest (brief_as most before log (settles.first ++ settles.rest) settles.log_is brief)

    -- Stop was said before the decisions
    stopped_still : settles.between.desk.state.is_stopped ≡ true
    stopped_still = stays_stopped 65536 shelf x settles.between settles.first decides.any decides.decides stands.stopped

    closes : ClosesOver settles.between settles.rest y
    closes = subst (λ (b : Bool). GoesOn b shelf settles.between settles.rest y) stopped_still settles.goes

    decided : AreDecided before settles.between settles.first s
    decided =
        decides_stopped 65536 before x settles.between settles.first decides.any s obeys brief_first (affords_front s settles.first settles.rest affords) stands holds decides.decides
        (sym (ap (λ (d : Desk). d.state.is_astray) closes.rest) ∙ well)

    affords_rest : Affords decided.then settles.rest
    affords_rest = affords_then terms before settles.first settles.rest s decided.then decided.comes affords

    moment : IsMoment terms most (before ++ settles.first) settles.between.desk.peers shelf settles.between.desk.state decided.then
    moment = record { obeys = decided.comes.obeys; brief = brief_first; stands = decided.stands.behind }

    may_stop : MayStop settles.between decided.then
    may_stop = record {
      at = supplies.at (before ++ settles.first) settles.between.desk.peers settles.between.desk.state decided.then moment decided.holds;
      none = decided.stands.behind.stands.deciding.none;
      done = decided.none;
      stopped = decided.stands.stopped;
      awake = decided.stands.awake;
      clients = decided.stands.clients;
      origins = decided.stands.origins;
      going = supplies.going (before ++ settles.first) settles.between.desk.peers settles.between.desk.state decided.then moment decided.holds;
    }

    -- two phases are left without a happening
    comes_on : (shut : AllAreShut terms (before ++ settles.first) settles.rest decided.then) → ComesTo terms (before ++ settles.first) settles.rest decided.then shut.then
    comes_on shut =
        let t : State = decided.then in
        let u : State = behind t in
        let hs : Log = before ++ settles.first in
        let one : ComesTo terms hs [] t u = comes_silently terms hs t decided.comes.obeys shut.leads.done in
        let two : ComesTo terms (hs ++ []) [] u (behind u) = comes_silently terms (hs ++ []) u one.obeys shut.leads.holds.done in
        let both : ComesTo terms hs [] t (behind u) = comes_then terms hs [] [] t u (behind u) one two in
        let three : ComesTo terms (hs ++ []) settles.rest (behind u) shut.then =
        comes_by terms settles.rest (hs ++ []) (behind u) shut.then (enough_of (behind u) settles.rest (affords_then terms hs [] settles.rest t (behind u) both affords_rest)) both.obeys shut.leads.holds.holds in
        comes_then terms hs [] settles.rest t (behind u) shut.then both three

    stopped_so : HasStopped terms before y log s
    stopped_so = at_end (stops terms decided.stands.behind.number (before ++ settles.first) settles.rest settles.between y decided.then decided.comes.obeys decided.stands.behind.stands.turn may_stop closes)
      where
        at_end : AllAreShut terms (before ++ settles.first) settles.rest decided.then × NobodyIsLeft y → HasStopped terms before y log s
        at_end both = record {
          then = both.0.then;
          comes = subst (λ (hs : Log). ComesTo terms before hs s both.0.then) (sym settles.log_is) (comes_then terms before settles.first settles.rest s decided.then both.0.then decided.comes (comes_on both.0));
          clients = both.0.clients;
          conns = both.0.conns;
          over = both.0.over;
          nobody = both.1;
        }

-- whatever holds from one decision to the next
pub stops_lead : (terms : List Term) (most : ℕ) (before : Log) (shelf : KeptMap) (I : Turn → State → Type 0) (x y : Moving) (log : Log) (s : State) → StopSupplies terms most shelf I → Obeys terms s before → IsBrief most (before ++ log) → Affords s log → StandsAtStop shelf x s → I x.desk.state s → Settles shelf x log y → y.desk.state.is_astray ≡ false
    → HasStopped terms before y log s
stops_lead terms most before shelf I x y log s supplies obeys brief affords stands holds settles well = stopped_so terms most shelf I supplies before x y log s obeys brief affords stands holds settles well

pub stopped : StopsLead
stopped terms most before shelf test x y log s supplies obeys brief affords stands holds settles well = stops_lead terms most before shelf (Passes test) x y log s supplies obeys brief affords stands holds settles well
