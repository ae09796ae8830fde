-- What rounds of a turn rest on is supplied, in a log of fewer than 2^50 happenings.
use Rattle.std.proofs.Common.{◌≡◌, ◌≤◌, ◌<◌, refl, sym, subst, ap, ◌∙◌, ℕ, ◌+◌, ◌-◌, ◌*◌, ◌^◌, true, false, length, List, [], ◌++◌, Some, None, arith}
use Rattle.std.proofs.lemmas.List.{length-append}
use Rattle.pp_asks_law.proofs.AskMore.{followers_may}
use Rattle.pp_asks_law.proofs.Begins.{replies_may}
use Rattle.pp_asks_law.proofs.Few.{few_awake}
use Rattle.pp_asks_law.proofs.GoWithout.{dials_may, few_given}
use Rattle.pp_asks_law.specs.Rests.{HasNumbers, RestsOn as AsksRestOn}
use Rattle.pp_turns_law.specs.Sides.{MayClose}
use Rattle.pp_deciding_law.proofs.Found.{first_keeps}
use Rattle.pp_desk.specs.declared.desk.Desk.{Desk}
use Rattle.pp_given_law.proofs.NamesFew.{names_stay}
use Rattle.pp_given_law.specs.MayNote.{most_names}
use Rattle.pp_law.specs.Connections.{conn, is_conn}
use Rattle.pp_law.specs.Phases.{has_closings, next}
use Rattle.pp_law.specs.State.{State, Conn, Connecting, Term}
use Rattle.pp_laws.proofs.Lists.{in_find}
use Rattle.pp_laws.proofs.Tests.{same_number}
use Rattle.pp_laws.specs.Runs.{IsIn}
use Rattle.pp_laws_sides.proofs.Counted.{exchanges_counted}
use Rattle.pp_laws_turn.proofs.Laws.{sound_turns}
use Rattle.pp_laws_turn.specs.SoundTurn.{IsSoundTurn}
use Rattle.pp_obeys.specs.Moves.{Leads}
use Rattle.pp_obeys.specs.Obeys.{Obeys}
use Rattle.pp_places.specs.Around.{around}
use Rattle.pp_places_law.specs.Around.{MayPlace, ShowsAround}
use Rattle.pp_proxy.specs.Moving.{Moving}
use Rattle.pp_rests_law.proofs.Given.{given_shown}
use Rattle.pp_rests_law.proofs.MayClose.{closings_may}
use Rattle.pp_rests_law.proofs.Rests.{decisions_rest}
use Rattle.pp_rounds_law.proofs.Coming.{affords_front}
use Rattle.pp_rounds_law.proofs.Dials.{all_refused}
use Rattle.pp_rounds_law.specs.Coming.{Affords, IsBrief}
use Rattle.pp_rounds_law.specs.Decisions.{Supplies}
use Rattle.pp_rounds_law.specs.Dials.{MayGoWithout, OfAffordedDials, StandsToPlace}
use Rattle.pp_rounds_law.specs.Serves.{EndSupplies}
use Rattle.pp_rounds_law.specs.Stands.{StandsAmid}
use Rattle.pp_rounds_law.specs.Supplies.{RoundSupplies}
use Rattle.pp_seats_law.specs.Clients.{AreShown}
use Rattle.pp_state.specs.declared.state.State.{State as Turn}
use Rattle.pp_stays_law.proofs.Afforded.{afforded}
use Rattle.pp_stays_law.proofs.Starts.{kept_so}
use Rattle.pp_stays_law.proofs.Whole.{turns_stand}
use Rattle.pp_stays_law.specs.Dials.{MayBeRefusedAlong}
use Rattle.pp_store.specs.Kept.{KeptMap}
use Rattle.pp_world.specs.Log.{Log}
use Rattle.pp_turn_law.specs.Supplied.{StandsServing, StandsSupplied}

-- ---- counts

far_from : (n k most : ℕ) → n ≤ 4096 * (k + 1) → k ≤ most → most < 2 ^ 50 → n < 2 ^ 64 - 1
far_from n k most le brief few = omega (arith, le, brief, few)

far_with : (n k most awake : ℕ) → n ≤ 4096 * (k + 1) → k ≤ most → most < 2 ^ 50 → awake ≤ 256 → n + awake ≤ 2 ^ 64 - 1
far_with n k most awake le brief few here = omega (arith, le, brief, few, here)

front_brief : (most : ℕ) (before hs rest log : Log) → log ≡ hs ++ rest → IsBrief most (before ++ log) → IsBrief most (before ++ hs)
front_brief most before hs rest log is brief =
    omega (arith, brief, length-append before log, length-append before hs, ap (λ (l : Log). length l) is, length-append hs rest)

module _ (terms : List Term) (most : ℕ) (few : most < 2 ^ 50) (shelf : KeptMap) where
  abbrev I : Turn → State → Type 0
  I = StandsSupplied shelf

  numbered : (before : Log) (s : State) → Obeys terms s before → IsBrief most before → s.next_exchange < 2 ^ 64 - 1
  numbered before s obeys brief = far_from s.next_exchange (length before) most (exchanges_counted terms s before obeys) brief few

  same_name : (m n : ℕ) → n ≡ m → m ≤ 64 → n ≤ 64
  same_name m n same short = subst (λ (k : ℕ). k ≤ 64) (sym same) short

  -- of whatever shows the turn
  closes_so : (before : Log) (number : ℕ → ℕ) (x : Turn) (s : State) → Obeys terms s before → AreShown number x.name.items [] x.seats.items s.clients → I x s → MayClose s
  closes_so before number x s obeys shown holds = closings_may terms s before obeys (given_shown number x.name.items x.seats.items s.clients shown holds.stays.given)

  -- ---- decisions

  decides : Supplies terms most shelf I
  decides = record {
    rests = λ before i due p x y log s seat c moment holds next one straight.
        decisions_rest moment.stands.number x.desk.peers shelf terms before i due p x.desk.state s seat c moment.stands.stands (record { obeys = moment.obeys; numbers = numbered before s moment.obeys moment.brief }) next;
    closes = λ before peers p s moment holds. closes_so before moment.stands.number p s moment.obeys moment.stands.stands.turn.steps.shows.clients holds;
    taken = λ before i due p x y log s seat c moment holds next one straight behind. record {
      stays = (turns_stand terms shelf).decisions.taken before i due p x y log s seat c (record { obeys = moment.obeys; stands = moment.stands }) holds.stays next one straight (record { obeys = behind.obeys; stands = behind.stands });
      name = same_name (length p.name.items) (length y.desk.state.name.items) (ap (λ (d : Desk). length d.state.name.items) one.rest ∙ ap (λ (r : Turn). length r.name.items) (first_keeps shelf p.awake.items p x.desk.state _ next.first)) holds.name;
    };
    cut = λ before i cause p x y log s seat c moment holds next one straight behind. record {
      stays = (turns_stand terms shelf).decisions.cut before i cause p x y log s seat c (record { obeys = moment.obeys; stands = moment.stands }) holds.stays next one straight (record { obeys = behind.obeys; stands = behind.stands });
      name = same_name (length p.name.items) (length y.desk.state.name.items) (ap (λ (d : Desk). length d.state.name.items) one.rest ∙ ap (λ (r : Turn). length r.name.items) (first_keeps shelf p.awake.items p x.desk.state _ next.first)) holds.name;
    };
    none = λ before peers p q s moment holds first straight behind. record {
      stays = (turns_stand terms shelf).decisions.none before peers p q s (record { obeys = moment.obeys; stands = moment.stands }) holds.stays first straight (record { obeys = behind.obeys; stands = behind.stands });
      name = same_name (length p.name.items) (length q.name.items) (ap (λ (r : Turn). length r.name.items) (first_keeps shelf p.awake.items p q _ first)) holds.name;
    };
  }

  -- ---- followers, and dials

  asks_rest : (p : Turn) (s : State) → I p s → AsksRestOn shelf p s
  asks_rest p s holds = record { given = λ i seat here going. holds.stays.given i seat here; shows = holds.stays.disk.shows; names = holds.stays.disk.names }

  awake_few : (before : Log) (number : ℕ → ℕ) (x : Moving) (s : State) → Obeys terms s before → StandsAmid number shelf x s → length x.desk.state.awake.items ≤ 256
  awake_few before number x s obeys amid =
      few_awake number x.desk.state.name.items x.desk.state.seats.items s.clients x.desk.state.awake.items amid.turn.steps.shows.clients amid.awake.order (sound_turns terms s before obeys).bounded.clients

  numbers : (before : Log) (number : ℕ → ℕ) (x : Moving) (s : State) → Obeys terms s before → IsBrief most before → StandsAmid number shelf x s → HasNumbers x.desk.state s
  numbers before number x s obeys brief amid =
      far_with s.next_exchange (length before) most (length x.desk.state.awake.items) (exchanges_counted terms s before obeys) brief few (awake_few before number x s obeys amid)

  to_place : (number : ℕ → ℕ) (x : Moving) (s : State) → StandsAmid number shelf x s → ShowsAround number x.desk.state (around x.desk x.links x.top) s → StandsToPlace number x.desk.state (around x.desk x.links x.top) s
  to_place number x s amid shows = record { shows = shows; is = refl; ready = amid.ready; awake = amid.awake }

  dials : (before : Log) (number : ℕ → ℕ) (x : Moving) (s : State) → Obeys terms s before → StandsAmid number shelf x s → I x.desk.state s → ShowsAround number x.desk.state (around x.desk x.links x.top) s → MayPlace s
      → OfAffordedDials (MayGoWithout x.desk.state) most before number x.desk.state None (around x.desk x.links x.top) s
  dials before number x s obeys amid holds shows may =
      dials_may terms most before number shelf x.desk.state (around x.desk x.links x.top) s obeys (to_place number x s amid shows) (asks_rest x.desk.state s holds)
      (few_given terms most before number x.desk.state (around x.desk x.links x.top) s obeys (to_place number x s amid shows) may few)

  -- ---- each step of a round

  around_shows : (number : ℕ → ℕ) (x : Moving) (s : State) → StandsAmid number shelf x s → ShowsAround number x.desk.state (around x.desk x.links x.top) s
  around_shows number x s amid = record {
    turn = record { steps = amid.turn.steps; name = amid.turn.name; shares = amid.turn.shares; clock = amid.turn.clock; ticked = amid.turn.ticked; stopped = amid.turn.stopped; bounded = amid.turn.bounded };
    limits = amid.limits;
    waiting = amid.waiting;
    placed = amid.placed;
    linked = amid.linked;
    given = amid.given;
    few = amid.few;
    top = amid.top;
  }

  -- each dial of the log may be refused
  along : (before : Log) (number : ℕ → ℕ) (x : Moving) (log : Log) (s t u : State) → Obeys terms s before → StandsAmid number shelf x s → I x.desk.state s → MayPlace s → Leads log s t → Obeys terms u (before ++ log) → IsBrief most (before ++ log)
      → MayBeRefusedAlong log number x.desk.state None (around x.desk x.links x.top) s
  along before number x log s t u obeys amid holds may leads behind brief steps hs rest z now e is reaches leads_now may_now shows waits =
      all_refused terms most before number x.desk.state (around x.desk x.links x.top) s obeys (to_place number x s amid (around_shows number x s amid)) (dials before number x s obeys amid holds (around_shows number x s amid) may)
      steps hs z now e (affords_front s hs rest (subst (λ (l : Log). Affords s l) is (afforded terms before log s t u obeys leads behind))) (front_brief most before hs rest log is brief) reaches leads_now may_now shows waits

  given_conn : (s : State) → IsSoundTurn s → (n : ℕ) (k : Conn) → conn s n ≡ Some k → n ≤ s.top
  given_conn s sound n k there =
      let found : IsIn k s.conns × (is_conn n k ≡ true) = in_find (is_conn n) k s.conns there in
      subst (λ (m : ℕ). m ≤ s.top) (same_number k.number n found.1) (sound.numbers.conns_given k found.0)

  may_place : (before : Log) (number : ℕ → ℕ) (x : Moving) (s : State) → Obeys terms s before → StandsAmid number shelf x s → s.phase ≡ Connecting → has_closings s ≡ false → MayPlace s
  may_place before number x s obeys amid at none =
      let sound : IsSoundTurn s = sound_turns terms s before obeys in
      record { connecting = record { at = at; none = amid.none }; going = amid.going; closed = none; apart = λ n. sound.apart.conns n; given = given_conn s sound }

  rounds : RoundSupplies terms most shelf I
  rounds = record {
    decides = decides;
    closes = λ before number x s obeys brief amid holds. closes_so before number x.desk.state s obeys amid.turn.steps.shows.clients holds;
    counted = λ before number x s n k obeys brief amid holds there. holds.stays.counted n k there;
    asks = λ before number x seen given s obeys brief amid holds at none sees gives.
        followers_may terms before number shelf x seen given s obeys amid (asks_rest x.desk.state s holds) holds.stays.counted (numbers before number x s obeys brief amid) at sees gives;
    keeps = λ before number x s obeys brief amid holds. kept_so shelf x.desk.state s holds.stays.disk;
    dials = λ before number x s obeys brief amid holds shows may. dials before number x s obeys amid holds shows may;
    silent = λ before number x seen given asked s obeys brief amid holds at none sees gives fills behind amid_behind straight. record {
      stays = (turns_stand terms shelf).rounds.silent before number x seen given asked s obeys amid (closes_so before number x.desk.state s obeys amid.turn.steps.shows.clients holds) holds.stays.counted holds.stays at none sees gives fills behind amid_behind straight;
      name = same_name (length x.desk.state.name.items) (length asked.state.name.items) (ap (λ (d : Desk). length d.state.name.items) fills.rest ∙ ap (λ (d : Desk). length d.state.name.items) gives.rest ∙ ap (λ (d : Desk). length d.state.name.items) sees.rest) holds.name;
    };
    closed = λ before number x y log s t obeys brief amid holds at closes leads behind brief_behind amid_behind straight. record {
      stays = (turns_stand terms shelf).rounds.closed before number x y log s t obeys amid holds.stays at closes leads behind amid_behind straight;
      name = same_name (length x.desk.state.name.items) (length y.desk.state.name.items) (ap (λ (d : Desk). length d.state.name.items) closes.rest) holds.name;
    };
    placed = λ before number x y log s t obeys brief amid holds at none places leads done behind brief_behind amid_behind straight. record {
      stays = (turns_stand terms shelf).rounds.placed before number x y log s t obeys amid holds.stays at none
          (along before number x log s t (next t) obeys amid holds (may_place before number x s obeys amid at none) leads behind brief_behind) places leads done behind amid_behind straight;
      name = same_name (length x.desk.state.name.items) (length y.desk.state.name.items) (ap (λ (d : Desk). length d.state.name.items) places.rest) holds.name;
    };
  }

  -- ---- the end

  ends : EndSupplies terms most shelf I
  ends = record {
    begins = λ before number p s obeys brief stands holds.
        replies_may terms before number shelf p s obeys stands (record { given = λ i seat here going. holds.stays.given i seat here; texts = holds.stays.texts; name = holds.name });
  }

  -- ---- with the names that may be noted

  abbrev N : Turn → State → Type 0
  N = StandsServing shelf

  decides_named : Supplies terms most shelf N
  decides_named = record {
    rests = λ before i due p x y log s seat c moment holds next one straight. decides.rests before i due p x y log s seat c moment holds.supplied next one straight;
    closes = λ before peers p s moment holds. decides.closes before peers p s moment holds.supplied;
    taken = λ before i due p x y log s seat c moment holds next one straight behind. record {
      supplied = decides.taken before i due p x y log s seat c moment holds.supplied next one straight behind;
      names = (names_stay terms shelf most_names).decisions.taken before i due p x y log s seat c (record { obeys = moment.obeys; stands = moment.stands }) holds.names next one straight (record { obeys = behind.obeys; stands = behind.stands });
    };
    cut = λ before i cause p x y log s seat c moment holds next one straight behind. record {
      supplied = decides.cut before i cause p x y log s seat c moment holds.supplied next one straight behind;
      names = (names_stay terms shelf most_names).decisions.cut before i cause p x y log s seat c (record { obeys = moment.obeys; stands = moment.stands }) holds.names next one straight (record { obeys = behind.obeys; stands = behind.stands });
    };
    none = λ before peers p q s moment holds first straight behind. record {
      supplied = decides.none before peers p q s moment holds.supplied first straight behind;
      names = (names_stay terms shelf most_names).decisions.none before peers p q s (record { obeys = moment.obeys; stands = moment.stands }) holds.names first straight (record { obeys = behind.obeys; stands = behind.stands });
    };
  }

  rounds_named : RoundSupplies terms most shelf N
  rounds_named = record {
    decides = decides_named;
    closes = λ before number x s obeys brief amid holds. rounds.closes before number x s obeys brief amid holds.supplied;
    counted = λ before number x s n k obeys brief amid holds there. rounds.counted before number x s n k obeys brief amid holds.supplied there;
    asks = λ before number x seen given s obeys brief amid holds at none sees gives. rounds.asks before number x seen given s obeys brief amid holds.supplied at none sees gives;
    keeps = λ before number x s obeys brief amid holds. rounds.keeps before number x s obeys brief amid holds.supplied;
    dials = λ before number x s obeys brief amid holds shows may. rounds.dials before number x s obeys brief amid holds.supplied shows may;
    silent = λ before number x seen given asked s obeys brief amid holds at none sees gives fills behind amid_behind straight. record {
      supplied = rounds.silent before number x seen given asked s obeys brief amid holds.supplied at none sees gives fills behind amid_behind straight;
      names = (names_stay terms shelf most_names).rounds.silent before number x seen given asked s obeys amid (closes_so before number x.desk.state s obeys amid.turn.steps.shows.clients holds.supplied) holds.supplied.stays.counted holds.names at none sees gives fills behind
          amid_behind straight;
    };
    closed = λ before number x y log s t obeys brief amid holds at closes leads behind brief_behind amid_behind straight. record {
      supplied = rounds.closed before number x y log s t obeys brief amid holds.supplied at closes leads behind brief_behind amid_behind straight;
      names = (names_stay terms shelf most_names).rounds.closed before number x y log s t obeys amid holds.names at closes leads behind amid_behind straight;
    };
    placed = λ before number x y log s t obeys brief amid holds at none places leads done behind brief_behind amid_behind straight. record {
      supplied = rounds.placed before number x y log s t obeys brief amid holds.supplied at none places leads done behind brief_behind amid_behind straight;
      names = (names_stay terms shelf most_names).rounds.placed before number x y log s t obeys amid holds.names at none
          (along before number x log s t (next t) obeys amid holds.supplied (may_place before number x s obeys amid at none) leads behind brief_behind) places leads done behind amid_behind straight;
    };
  }

  ends_named : EndSupplies terms most shelf N
  ends_named = record { begins = λ before number p s obeys brief stands holds. ends.begins before number p s obeys brief stands holds.supplied }

pub rounds_supplied : (terms : List Term) (most : ℕ) → most < 2 ^ 50 → (shelf : KeptMap) → RoundSupplies terms most shelf (StandsSupplied shelf)
rounds_supplied terms most few shelf = rounds terms most few shelf

pub ends_supplied : (terms : List Term) (most : ℕ) → most < 2 ^ 50 → (shelf : KeptMap) → EndSupplies terms most shelf (StandsSupplied shelf)
ends_supplied terms most few shelf = ends terms most few shelf

pub rounds_named_so : (terms : List Term) (most : ℕ) → most < 2 ^ 50 → (shelf : KeptMap) → RoundSupplies terms most shelf (StandsServing shelf)
rounds_named_so terms most few shelf = rounds_named terms most few shelf

pub ends_named_so : (terms : List Term) (most : ℕ) → most < 2 ^ 50 → (shelf : KeptMap) → EndSupplies terms most shelf (StandsServing shelf)
ends_named_so terms most few shelf = ends_named terms most few shelf
