-- The decisions of a round, one behind the other.
use Rattle.std.proofs.Common.{◌≡◌, ◌≤◌, ◌+◌, refl, sym, subst, ap, ◌∙◌, ℕ, zero, suc, Bool, true, false, length, List, [], ◌∷◌, ◌++◌, Option, Some, None, arith}
use Rattle.std.specs.List.{All}
use Rattle.std.specs.Prelude.{count_by, option_and_then, option_map, slice_get, vec_capacity}
use Rattle.pp_cache_law.proofs.PairLemmas.{count_first}
use Rattle.pp_turns_law.specs.Log.{AreLinked}
use Rattle.pp_conf.specs.Conf.{Settings}
use Rattle.pp_deciding_law.proofs.Found.{first_keeps, found_due}
use Rattle.pp_deciding_law.specs.Stands.{NoneIsNext, StandsBehind}
use Rattle.pp_desk.specs.Closings.{peer_numbers}
use Rattle.pp_due.specs.Due.{due_at, due_of}
use Rattle.pp_due.specs.Entering.{FirstDue}
use Rattle.pp_law.specs.Due.{first_due}
use Rattle.pp_law.specs.State.{State, Phase, Term, Deciding}
use Rattle.pp_links.specs.Links.{Link}
use Rattle.pp_obeys.specs.Failures.{fails}
use Rattle.pp_obeys.specs.Moves.{Leads}
use Rattle.pp_obeys.specs.Obeys.{Obeys}
use Rattle.pp_objects.specs.Instances.{Instance}
use Rattle.pp_peers.specs.declared.placing.Limits.{Limits}
use Rattle.pp_places_law.specs.Closings.{AreOpen}
use Rattle.pp_proxy.specs.Deciding.{Decides, TakesOne}
use Rattle.pp_proxy.specs.Moving.{Moving, with_state}
use Rattle.pp_proxy.specs.Taking.{due_log_for, due_log_of, who_at}
use Rattle.pp_rounds_law.proofs.Astray.{decided_well, first_given, found_given}
use Rattle.pp_rounds_law.proofs.Decisions.{decides_none, decides_one}
use Rattle.pp_rounds_law.specs.Decisions.{AllDecided, Passes}
use Rattle.pp_seats.specs.declared.due.Due.{Due}
use Rattle.pp_seats.specs.declared.due.Due.TheVariants.{Decide, CutOff}
use Rattle.pp_seats.specs.declared.seat.Seat.{Seat}
use Rattle.pp_state.specs.Ends.{numbers_of}
use Rattle.pp_state.specs.declared.state.State.{State as Turn}
use Rattle.pp_steps.specs.Evicting.{row_in_way, row_notes}
use Rattle.pp_store.specs.Kept.{KeptMap}
use Rattle.pp_take.specs.Deciding.{afforded}
use Rattle.pp_turns_law.specs.Firsts.{FirstDueInMemory}
use Rattle.pp_world.specs.Log.{Log}
use Rattle.pp_world.specs.declared.happening.Happening.TheVariants.{Noted}
use Rattle.pp_world.specs.declared.note.Decision.{Decision}
use Rattle.pp_world.specs.declared.note.Remark.{Remark}
use Rattle.pp_world.specs.declared.note.Remark.TheVariants.{Cut, Forgotten, Taken}
use Rattle.pp_rounds_law.proofs.Coming.{comes_by, comes_then, none_fail, brief_as, brief_before, brief_front, brief_then}
use Rattle.pp_rounds_law.proofs.Noted.{IsBehind, SetAs, cut_leads, forgotten_leads, set_itself, taken_leads}
use Rattle.pp_rounds_law.proofs.Went.{Went, as_many, went_found, went_one, went_then}
use Rattle.pp_rounds_law.specs.Coming.{ComesTo, IsBrief}
use Rattle.pp_rounds_law.specs.InRounds.{AreDecided, DecisionsInARound, phase_behind}
use Rattle.pp_rounds_law.specs.Stands.{StandsInRound}
use Rattle.pp_rounds_law.specs.Supplies.{RoundSupplies}

-- ---- what stands in a round stands as for decisions, and back

pub behind_of : (shelf : KeptMap) (x : Moving) (s : State) → StandsInRound shelf x s → StandsBehind x.desk.peers shelf x.desk.state s
behind_of shelf x s stands = record {
  number = stands.number;
  stands = record { deciding = stands.deciding; turn = stands.amid.turn; disk = stands.disk; ready = stands.amid.ready; kept = stands.amid.kept; awake = stands.amid.awake };
}

abbrev pub limits_by : Settings → Limits
limits_by settings = record { host_connections = settings.host_connections; pipelines_asks = settings.pipelines_asks }

pub few_of : (a b c d : ℕ) → a ≡ b → b ≤ 256 + c → d ≡ c → a ≤ 256 + d
few_of a b c d one few two = omega (arith, one, few, two)

pub top_of : (a b c d : ℕ) → a ≡ b → b ≤ c → d ≡ c → a ≤ d
top_of a b c d one less two = omega (arith, one, less, two)

stands_on : (shelf : KeptMap) (x y : Moving) (s t : State) → StandsInRound shelf x s → Went x y → SetAs s t → StandsBehind y.desk.peers shelf y.desk.state t → StandsInRound shelf y t
stands_on shelf x y s t before went set behind = record {
  number = behind.number;
  amid = record {
    turn = behind.stands.turn;
    ready = behind.stands.ready;
    kept = behind.stands.kept;
    awake = behind.stands.awake;
    none = behind.stands.deciding.none;
    going = sym behind.stands.turn.stopped ∙ went.stopped ∙ before.amid.turn.stopped ∙ before.amid.going;
    limits = went.limits ∙ before.amid.limits ∙ ap limits_by (sym set.settings);
    waiting = (went.asked (before.amid.waiting, before.amid.placed)).0;
    placed = (went.asked (before.amid.waiting, before.amid.placed)).1;
    linked = subst (λ (ns : List ℕ). AreLinked ns y.links) (sym went.peers) (subst (λ (links : List Link). AreLinked (peer_numbers x.desk.peers) links) (sym went.links) before.amid.linked);
    seated = subst (λ (ns : List ℕ). AreOpen ns y.links) (sym went.numbers) (subst (λ (links : List Link). AreOpen (numbers_of x.desk.state.seats.items) links) (sym went.links) before.amid.seated);
    given = subst (λ (top : ℕ). All (λ (link : Link). link.0 ≤ top) y.links) (sym went.top) (subst (λ (links : List Link). All (λ (link : Link). link.0 ≤ x.top) links) (sym went.links) before.amid.given);
    few =
        few_of (length y.links) (length x.links) (length x.desk.peers) (length y.desk.peers) (ap (λ (links : List Link). length links) went.links) before.amid.few
        (sym (as_many y.desk.peers) ∙ ap (λ (ns : List ℕ). length ns) went.peers ∙ as_many x.desk.peers);
    top = top_of t.top s.top x.top y.top set.top before.amid.top went.top;
    room = subst (λ awake. 256 ≤ vec_capacity awake) (sym went.awake) before.amid.room;
    away = went.away ∙ before.amid.away;
  };
  deciding = behind.stands.deciding;
  disk = behind.stands.disk;
}

-- ---- one is taken: what the log gets

seat_due : (i : ℕ) (q : Turn) (d : Due) → due_at i q ≡ Some d → (seat : Seat) × (slice_get q.seats.items i ≡ Some seat)
seat_due i q d due = by (slice_get q.seats.items i) refl due
  where
    by : (o : Option Seat) → slice_get q.seats.items i ≡ o → option_and_then (due_of q) o ≡ Some d → (seat : Seat) × (slice_get q.seats.items i ≡ Some seat)
    by None here is = absurd (cc is)
    by (Some seat) here is = (seat, here)

taken_log : (o : Option Instance) (who : ℕ × ℕ) (d : Decision) (s t : State) → Leads (row_notes o ++ Noted (Taken who.0 who.1 d) ∷ []) s t → IsBehind s t
taken_log None who d s t leads = taken_leads who.0 who.1 d s t leads
taken_log (Some j) who d s t leads = forgotten_leads j.key who.0 who.1 d s t leads

due_leads : (who : ℕ × ℕ) (i : ℕ) (due : Due) (q : Turn) (s t : State) → Leads (due_log_for who i due q) s t → IsBehind s t
due_leads who i (Decide d) q s t leads = taken_log (row_in_way (afforded i d q) i q) who (afforded i d q) s t leads
due_leads who i (CutOff cause) q s t leads = cut_leads who.0 cause s t leads

noted_counts : (r : Remark) (hs : Log) → count_by fails hs ≡ 0 → count_by fails (Noted r ∷ hs) ≡ 0
noted_counts r hs none = count_first fails (Noted r) hs ∙ omega (arith, none)

taken_counts : (o : Option Instance) (who : ℕ × ℕ) (d : Decision) → count_by fails (row_notes o ++ Noted (Taken who.0 who.1 d) ∷ []) ≡ 0
taken_counts None who d = noted_counts (Taken who.0 who.1 d) [] refl
taken_counts (Some j) who d = noted_counts (Forgotten j.key) (Noted (Taken who.0 who.1 d) ∷ []) (noted_counts (Taken who.0 who.1 d) [] refl)

due_counts : (who : ℕ × ℕ) (i : ℕ) (due : Due) (q : Turn) → count_by fails (due_log_for who i due q) ≡ 0
due_counts who i (Decide d) q = taken_counts (row_in_way (afforded i d q) i q) who (afforded i d q)
due_counts who i (CutOff cause) q = noted_counts (Cut who.0 cause) [] refl

-- ---- one behind the other

still_deciding : (later : Bool) (phase : Phase) → phase ≡ Deciding → phase_behind later phase ≡ Deciding
still_deciding true phase is = refl
still_deciding false phase is = is

deciding_then : (any later : Bool) (was mid : Phase) (t : State) → any ≡ true → mid ≡ Deciding → t.phase ≡ phase_behind later mid → t.phase ≡ phase_behind any was
deciding_then any later was mid t is decided so = so ∙ still_deciding later mid decided ∙ ap (λ (b : Bool). phase_behind b was) (sym is)

never : (any : Bool) (t s : State) → any ≡ true → any ≡ false → t ≡ s
never any t s is isnt = absurd (let both : true ≡ false = sym is ∙ isnt in cc both)

abbrev Then : ℕ → KeptMap → Moving → Turn → Log → Moving → Bool → Option (ℕ × Due) → Type 0
Then more shelf x found log y any due = elim due [
  | None ↦ (log ≡ []) × (y ≡ with_state found x) × (any ≡ false)
  | Some d ↦ (next : Moving) × (first : Log) × (rest : Log) × (later : Bool) × (log ≡ first ++ rest) × TakesOne d.0 d.1 (with_state found x) first next × Decides more shelf next rest y later × (any ≡ true)
]

module _ (terms : List Term) (most : ℕ) (shelf : KeptMap) (I : Turn → State → Type 0) (supplies : RoundSupplies terms most shelf I) where
  abbrev Ends : Log → Moving → Log → Bool → State → Type 0
  Ends before y log any s = AreDecided terms before shelf I y log any s

  nothing : (before : Log) (y z : Moving) (log : Log) (any : Bool) (s : State) → Obeys terms s before → StandsInRound shelf z s → I z.desk.state s → y ≡ z → log ≡ [] → any ≡ false → first_due s ≡ None → Ends before y log any s
  nothing before y z log any s obeys stands holds same none isnt nothing_due = record {
    then = s;
    comes = subst (λ (hs : Log). ComesTo terms before hs s s) (sym none) (comes_by terms [] before s s (none_fail s 0 refl) obeys refl);
    stands = subst (λ (w : Moving). StandsInRound shelf w s) (sym same) stands;
    holds = subst (λ (w : Moving). I w.desk.state s) (sym same) holds;
    phase = ap (λ (b : Bool). phase_behind b s.phase) (sym isnt);
    unless = λ none. refl;
    none = nothing_due;
  }

  abbrev Onward : ℕ → Type 0
  Onward more = (before : Log) (x y : Moving) (log : Log) (any : Bool) (s : State) → Obeys terms s before → IsBrief most (before ++ log) → StandsInRound shelf x s → I x.desk.state s → Decides more shelf x log y any → y.desk.state.is_astray ≡ false → Ends before y log any s

  step : (more : ℕ) → Onward more → (before : Log) (x y : Moving) (log : Log) (any : Bool) (s : State) → Obeys terms s before → IsBrief most (before ++ log) → StandsInRound shelf x s → I x.desk.state s → (found : Turn) (due : Option (ℕ × Due)) → FirstDue shelf x.desk.state.awake.items x.desk.state found due
      → Then more shelf x found log y any due → y.desk.state.is_astray ≡ false → Ends before y log any s
  step more onward before x y log any s obeys brief stands holds found None looked here well =
      let found_well : found.is_astray ≡ false = sym (ap (λ (z : Moving). z.desk.state.is_astray) here.1) ∙ well in
      let given : FirstDueInMemory shelf x.desk.state.awake.items x.desk.state found None = first_given shelf x.desk.state.awake.items x.desk.state found None looked found_well in
      let none : NoneIsNext x.desk.peers shelf found s × I found s = decides_none terms most shelf I supplies.decides before x s obeys (brief_before most before log brief) (behind_of shelf x s stands) holds found given found_well in
      nothing before y (with_state found x) log any s obeys
      (stands_on shelf x (with_state found x) s s stands (went_found x found (first_keeps shelf x.desk.state.awake.items x.desk.state found None given)) (set_itself s) none.0.behind)
      none.1 here.1 here.0 here.2 none.0.none
  step more onward before x y log any s obeys brief stands holds found (Some d) looked (next, first, rest, later, is, takes, decides, any_is) well =
      let given : FirstDueInMemory shelf x.desk.state.awake.items x.desk.state found (Some d) = found_given more shelf x next y first rest later found d looked takes decides well in
      let all : IsBrief most (before ++ (first ++ rest)) = brief_as most before log (first ++ rest) is brief in
      let one : AllDecided shelf I next first s = decides_one terms most shelf I supplies.decides before x s obeys (behind_of shelf x s stands) holds found d next first given takes (brief_front most before first rest all) (decided_well more shelf next y rest later decides well) in
      let seat : (seat : Seat) × (slice_get found.seats.items d.0 ≡ Some seat) = seat_due d.0 found d.1 (found_due shelf x.desk.state.awake.items x.desk.state found d.0 d.1 given) in
      let who : who_at d.0 found ≡ Some (seat.0.client.id, seat.0.index) = ap (λ (o : Option Seat). option_map (λ (z : Seat). (z.client.id, z.index)) o) seat.1 in
      let log_is : first ≡ due_log_for (seat.0.client.id, seat.0.index) d.0 d.1 found = takes.log_is ∙ ap (λ (o : Option (ℕ × ℕ)). due_log_of o d.0 d.1 found) who in
      let law : IsBehind s one.then = due_leads (seat.0.client.id, seat.0.index) d.0 d.1 found s one.then (subst (λ (hs : Log). Leads hs s one.then) log_is one.leads) in
      let came : ComesTo terms before first s one.then =
      comes_by terms first before s one.then (none_fail s (count_by fails first) (ap (λ (hs : Log). count_by fails hs) log_is ∙ due_counts (seat.0.client.id, seat.0.index) d.0 d.1 found)) obeys one.leads in
      let went : Went x next =
      went_then x (with_state found x) next (went_found x found (first_keeps shelf x.desk.state.awake.items x.desk.state found (Some d) given)) (went_one d.0 d.1 (with_state found x) first next takes) in
      let there : StandsInRound shelf next one.then = stands_on shelf x next s one.then stands went law.set one.stands in
      let last : Ends (before ++ first) y rest later one.then = onward (before ++ first) next y rest later one.then came.obeys (brief_then most before first rest all) there one.holds decides well in
      record {
        then = last.then;
        comes = subst (λ (hs : Log). ComesTo terms before hs s last.then) (sym is) (comes_then terms before first rest s one.then last.then came last.comes);
        stands = last.stands;
        holds = last.holds;
        phase = deciding_then any later s.phase one.then.phase last.then any_is law.phase last.phase;
        unless = λ none. never any last.then s any_is none;
        none = last.none;
      }

  pub decides_round : (more : ℕ) → Onward more
  unfolding Decides
  decides_round zero before x y log any s obeys brief stands holds it well = absurd (let both : true ≡ false = sym (ap (λ (z : Moving). z.desk.state.is_astray) it.1) ∙ well in cc both)
  decides_round (suc more) before x y log any s obeys brief stands holds (found, due, first, rest) well = step more (decides_round more) before x y log any s obeys brief stands holds found due first rest well

pub decisions : DecisionsInARound
decisions terms most before shelf test more x y log any s supplies obeys brief stands holds it well = decides_round terms most shelf (Passes test) supplies more before x y log any s obeys brief stands holds it well
