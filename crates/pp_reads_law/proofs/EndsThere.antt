-- The step behind the head of an empty body ends the response, as the law has it with the head.
use Rattle.std.proofs.Common.{◌≡◌, ◌≤◌, ◌<◌, ◌⊎◌, inl, inr, refl, sym, subst, ap, ap₂, ◌∙◌, ℕ, zero, suc, ◌-◌, Bool, true, false, cond, drop, find, length, List, [], ◌∷◌, ◌++◌, Option, Some, None, arith, length-append, length-take, length-drop}
use Rattle.std.proofs.lemmas.Bool.Decides.{nat_tests}
use Rattle.std.specs.Prelude.{count_by, nat_le, slice_range}
use Rattle.pp_cache_law.proofs.Finds.{find_passes}
use Rattle.pp_cache_law.proofs.Numbers.{some_is}
use Rattle.pp_turns_law.proofs.Peers.{HasPeer, linked}
use Rattle.pp_turns_law.specs.Sides.{AreOrderly, MayClose, ShowsSides}
use Rattle.pp_desk.specs.Closings.{Sides}
use Rattle.pp_endings_law.proofs.GoneShort.{found_set, go_as, set_conns}
use Rattle.pp_flow_law.proofs.Entries.{same_number}
use Rattle.pp_framing.specs.Body.{Body as Delimited, Outcome, Done, Going, Bad as NoBody, no_data}
use Rattle.pp_framing.specs.Places.{read_from}
use Rattle.pp_framing.specs.Rules.{body_of}
use Rattle.pp_framing.specs.declared.body.BodyRule.{BodyRule}
use Rattle.pp_framing.specs.declared.body.BodyRule.TheVariants.{Empty, Length, Chunked, ToEnd}
use Rattle.pp_head.specs.Response.{Response}
use Rattle.pp_law.specs.Closing.{is_of}
use Rattle.pp_law.specs.Connections.{conn, exchange, front_of_line, is_conn, is_exchange, on_conn}
use Rattle.pp_law.specs.Lists.{Bytes}
use Rattle.pp_law.specs.Responses.{answer_with, answered_by, bring_row, end_if_empty, finish, head_came, payload_of}
use Rattle.pp_law.specs.State.{State, Answer, Client, Conn, Exchange}
use Rattle.pp_laws.specs.Runs.{IsIn}
use Rattle.pp_origins.specs.Gots.{Both, IsStep, IsStepOn, Makes, Remains, TakesStep, going_on, left_behind, remaining, sides_of}
use Rattle.pp_origins.specs.Responses.{response_whole}
use Rattle.pp_peers.specs.Peers.{is_number, with_pipe}
use Rattle.pp_peers.specs.declared.peers.Peer.{Peer}
use Rattle.pp_peers_law.proofs.Bodies.{begins as reads_begin, bodies}
use Rattle.pp_peers_law.specs.Comes.{IsBodyRead, ShowsAmid}
use Rattle.pp_peers_law.specs.Peers.{ShowsReading}
use Rattle.pp_pipe.specs.Asks.{awaited}
use Rattle.pp_pipe.specs.Front.{fate_of}
use Rattle.pp_pipe.specs.Line.{Line, answered, stepped}
use Rattle.pp_pipe.specs.Reading.{Reading, Before, Within, Closed, Broken, fate_in}
use Rattle.pp_pipe.specs.declared.fate.Fate.{Fate}
use Rattle.pp_pipe.specs.declared.step.Step.{Step}
use Rattle.pp_pipe.specs.declared.step.Step.TheVariants.{Head, Body as BodyStep, End, Bad, Idle}
use Rattle.pp_state.specs.Ends.{parts}
use Rattle.pp_state.specs.declared.state.State.{State as Turn}
use Rattle.pp_store.specs.Kept.{KeptMap}
use Rattle.pp_reads_law.proofs.AllGoing.{heads_let_go}
use Rattle.pp_reads_law.proofs.Amid.{set_may}
use Rattle.pp_reads_law.proofs.Brings.{IsBeside, beside_brought}
use Rattle.pp_reads_law.proofs.Fronts.{IsFront, is_front}
use Rattle.pp_reads_law.proofs.WholeOnes.{wholes}
use Rattle.pp_reads_law.specs.Bads.{piped}
use Rattle.pp_reads_law.specs.Heads.{HeadIsDue, HeadIsTaken, begun_by}
use Rattle.pp_reads_law.specs.Wholes.{IsAnsweredOn, line_behind}
use Rattle.pp_reads_law.proofs.Behind.{ends_alike}
use Rattle.pp_reads_law.proofs.BehindFilling.{heads_note}
use Rattle.pp_reads_law.specs.Empties.{EmptyBodiesEndAsTheLaws, EndsAtOnce, HasNotedBody, MayEnd, going_to}

-- ---- a body that ends before its first byte is empty, whatever follows

not_done : (over : Bytes) → Going ≡ Done over → ⊥
not_done over is = absurd (cc is)

none_first : (m : ℕ) → nat_le 0 m ≡ true
none_first m = grind (arith, nat_tests)

none_more : (m : ℕ) → nat_le (suc m) 0 ≡ false
none_more m = grind (arith, nat_tests)

pub empty_is : (rule : BodyRule) (over : Bytes) → (body_of rule []).outcome ≡ Done over → (more : Bytes) → body_of rule more ≡ no_data (Done more)
empty_is Empty over is more = refl
empty_is (Length zero) over is more = ap (λ (b : Bool). let d : Delimited = record { payload = []; outcome = elim b as (λ o. Outcome) [ true ↦ Done more | false ↦ Going ] } in d) (none_first (length more))
empty_is (Length (suc m)) over is more =
    absurd (not_done over (sym (ap (λ (b : Bool). elim b as (λ o. Outcome) [ true ↦ Done (drop {A = ℕ} (suc m) []) | false ↦ Going ]) (none_more m)) ∙ is))
empty_is Chunked over is more = absurd (not_done over is)
empty_is ToEnd over is more = absurd (not_done over is)

-- and so each body is, that does not go on
pub empty_or_going : (rule : BodyRule) → ((body_of rule []).outcome ≡ Going) ⊎ ((body_of rule []).outcome ≡ Done [])
empty_or_going Empty = inr refl
empty_or_going (Length zero) = inr refl
empty_or_going (Length (suc m)) = inl (ap (λ (b : Bool). elim b as (λ o. Outcome) [ true ↦ Done (drop {A = ℕ} (suc m) []) | false ↦ Going ]) (none_more m))
empty_or_going Chunked = inl refl
empty_or_going ToEnd = inl refl

-- ---- no data come of it

some_data : (bytes : Bytes) (from to : ℕ) (more : Bytes) → from < to → to ≤ length bytes → [] ≡ slice_range bytes from to ++ more → ⊥
some_data bytes from to more some within is =
    absurd
    (omega
    (arith, some, within, ap (λ (bs : Bytes). length bs) is, length-append (slice_range bytes from to) more, length-take (to - from) (drop from bytes), length-drop from bytes))

-- ---- the pipe is within it

fate_there : (reading : Reading) (a : Answer) → ShowsReading reading [] (Some a) → fate_in reading ≡ fate_of a.head
fate_there (Before text) a shows = absurd shows
fate_there (Within response place) a shows = ap fate_of shows.1.head
fate_there Closed a shows = absurd shows
fate_there Broken a shows = absurd shows

amid_payload : (reading : Reading) (a : Answer) (bytes left came : Bytes) → ShowsAmid reading a bytes left came → (more : Bytes) × ((body_of a.rule (a.raw ++ bytes ++ [])).payload ≡ payload_of a ++ came ++ more)
amid_payload (Before text) a bytes left came shows = absurd shows
amid_payload (Within response place) a bytes left came shows = ((read_from place (left ++ [])).payload, ap (λ (b : Delimited). b.payload) (shows.goes_on []))
amid_payload Closed a bytes left came shows = absurd shows
amid_payload Broken a bytes left came shows = absurd shows

module _ (before : ℕ → ℕ) (shelf : KeptMap) (x y : Both) (s : State) (n : ℕ) (k : Conn) (e : Exchange) (peer : Peer) (head : Response) (rule : BodyRule) (closes : MayClose s) (due : HeadIsDue x s n k e peer) (it : HeadIsTaken before x y s n k e head rule) (may : MayEnd s k e head rule) where
  abbrev a : Answer
  a = answer_with e head rule

  abbrev k1 : Conn
  k1 = answered_by a k

  abbrev brought : State
  brought = bring_row e head s

  abbrev begun : State
  begun = on_conn k.number (answered_by a) brought

  abbrev t : State
  t = begun_by k e head rule s

  abbrev name : Bytes
  name = s.settings.name

  kn : k.number ≡ n
  kn = same_number k.number n (find_passes (is_conn n) s.conns k due.due.on.there)

  beside : IsBeside s brought
  beside = beside_brought e head s

  first : IsFront s k e
  first = is_front s k e due.due.front

  -- ---- the law's state behind the head

  known_begun : exchange begun e.number ≡ Some e
  known_begun = ap (λ (es : List Exchange). find (is_exchange e.number) es) ((set_conns k.number (answered_by a) brought).1 ∙ beside.exchanges) ∙ first.known

  headed : HasNotedBody e begun t
  headed = heads_note begun e head rule (λ filling c among asks. may.passed filling c (subst (λ (cs : List Client). IsIn c cs) ((set_conns k.number (answered_by a) brought).2 ∙ beside.clients) among) asks) known_begun

  abbrev e1 : Exchange
  e1 = going_to headed.asker headed.body e

  conn_begun : conn begun n ≡ Some k1
  conn_begun =
      subst (λ (m : ℕ). conn (on_conn m (answered_by a) brought) n ≡ Some k1) (sym kn)
      (found_set n (answered_by a) brought k (λ j. refl) (ap (λ (ks : List Conn). find (is_conn n) ks) beside.conns ∙ due.due.on.there))

  conn_there : conn t n ≡ Some k1
  conn_there = ap (λ (ks : List Conn). find (is_conn n) ks) headed.conns ∙ conn_begun

  front_there : front_of_line t k1 ≡ Some e1
  front_there = ap (λ (ns : List ℕ). elim ns as (λ o. Option Exchange) [ [] ↦ None | m ∷ others ↦ exchange t m ]) first.line ∙ headed.known

  closes_brought : MayClose brought
  closes_brought = record {
    apart = λ m. subst (λ (ks : List Conn). count_by (is_conn m) ks ≤ 1) (sym beside.conns) (closes.apart m);
    orderly = subst (λ (ks : List Conn). AreOrderly ks) (sym beside.conns) closes.orderly;
    go = go_as s brought beside.exchanges beside.clients closes.go;
  }

  closes_begun : MayClose begun
  closes_begun = set_may k.number (answered_by a) brought (λ j. refl) (λ j one. record { closed = one.closed; few = one.few }) closes_brought

  pub shows_there : ShowsSides it.number name (sides_of y) t
  shows_there = record {
    steps = it.shows;
    may = record {
      apart = λ m. subst (λ (ks : List Conn). count_by (is_conn m) ks ≤ 1) (sym headed.conns) (closes_begun.apart m);
      orderly = subst (λ (ks : List Conn). AreOrderly ks) (sym headed.conns) closes_begun.orderly;
      go = heads_let_go k e head rule s closes.go;
    };
  }

  answered_there : IsAnsweredOn (sides_of y) t n k1 a it.peer
  answered_there = record {
    may = record {
      there = conn_there;
      goes_on = due.due.on.goes_on;
      answers = λ b is. record { first = e1; others = first.others; line = first.line; known = headed.known; whole = due.due.whole };
      once = λ m. headed.once m (subst (λ (es : List Exchange). count_by (is_of m) es ≤ 1) (sym ((set_conns k.number (answered_by a) brought).1 ∙ beside.exchanges)) (may.once m));
    };
    answer = refl;
    linked = it.linked;
    pipelines = may.pipelines;
  }

  -- ---- the step

  own : HasPeer t n y.peers k1
  own = linked t n y.peers t.conns k1 conn_there it.shows.shows.conns

  same : own.peer ≡ it.peer
  same = some_is own.peer it.peer (sym own.there ∙ it.linked)

  abbrev pipe : Line
  pipe = it.peer.pipe

  reads : ShowsReading pipe.reading [] (Some a)
  reads = subst (λ (p : Peer). ShowsReading p.pipe.reading [] (Some a)) same (own.shows.pipe due.due.on.goes_on).reading

  goes : going_on (find (is_number n) y.peers) ≡ Some it.peer
  goes =
      ap (λ (o : Option Peer). going_on o) it.linked
      ∙ ap (λ (b : Bool). cond b None (Some it.peer)) (ap (λ (p : Peer). p.is_closing) (sym same) ∙ own.shows.is_closing ∙ due.due.on.goes_on)

  module _ (next : Both) (over rest : Bytes) (behind : Option Remains) (empty : (body_of rule []).outcome ≡ Done over) where
    law : head_came k head s ≡ finish k1 e1 a t
    unfolding end_if_empty finish
    law =
        it.law ∙ ap (λ (o : Outcome). elim o as (λ u. State) [ Done r ↦ finish k e a t | Going ↦ t | NoBody ↦ t ]) empty ∙ sym (ends_alike k e headed.asker headed.body a t headed.client)

    -- and by the program the response is whole
    abbrev Result : Type 0
    Result = EndsAtOnce it.number next s k head rest behind × ((fed : List Peer) × Makes (response_whole n) (record y { peers = fed }) next)

    body_is : body_of a.rule rest ≡ no_data (Done rest)
    body_is = empty_is rule over empty rest

    by_step : (used : ℕ) (step : Step) (left : Reading) (fed : List Peer) → used ≤ length rest → IsBodyRead a rest rest [] used step left → fed ≡ with_pipe n (stepped step left pipe) y.peers → TakesStep step shelf n [] (record y { peers = fed }) next
        → behind ≡ left_behind used step (remaining rest []) → Result
    by_step used Head left fed within read is takes leaves = absurd read
    by_step used (BodyStep from to) left fed within read is takes leaves =
        let amid = amid_payload left a rest (drop used rest) (slice_range rest from to) read.shows in
        absurd (some_data rest from to amid.0 read.some (omega (arith, read.within, within)) (nothing amid.0 amid.1))
      where
        nothing : (more : Bytes) → (body_of rule (rest ++ [])).payload ≡ payload_of a ++ slice_range rest from to ++ more → [] ≡ slice_range rest from to ++ more
        nothing more payload =
            ap (λ (b : Delimited). b.payload) (sym (empty_is rule over empty (rest ++ []))) ∙ payload ∙ ap (λ (b : Delimited). b.payload ++ slice_range rest from to ++ more) (empty_is rule over empty [])
    by_step used End left fed within read is takes leaves = (
      record {
        leaves = leaves ∙ ap (λ (bs : Bytes). let r : Remains = remaining bs [] in Some r) follows;
        shows =
            subst (λ (z : Sides). ShowsSides it.number name z (head_came k head s)) (sym program)
            (subst (λ (u : State). ShowsSides it.number name (response_whole n (piped n (line_behind a it.peer) (sides_of y))) u) (sym law)
            (wholes it.number name (sides_of y) t shows_there n k1 a it.peer e1 answered_there front_there));
      },
      (fed, subst (λ (q : Turn). Makes (response_whole n) (record y { state = q; peers = fed }) next) takes.delivers takes.makes),
    )
      where
        done_is : {p : Bytes} {r : Bytes} → record { payload = p; outcome = Done r } ≡ no_data (Done rest) → r ≡ rest
        done_is {p} {r} one = outcome_is (ap (λ (b : Delimited). b.outcome) one)
          where
            outcome_is : Done r ≡ Done rest → r ≡ rest
            outcome_is two = cc two

        follows : drop used rest ≡ rest
        follows = done_is (sym read.body ∙ body_is)

        program : sides_of next ≡ response_whole n (piped n (line_behind a it.peer) (sides_of y))
        program =
            takes.makes.is
            ∙ ap₂ (λ (q : Turn) (ps : List Peer). response_whole n (let z : Sides = record { parts = parts q; peers = ps } in z)) takes.delivers
            (is ∙ ap₂ (λ (fate : Fate) (r : Reading). with_pipe n (record (answered fate pipe) { reading = r }) y.peers) (fate_there pipe.reading a reads) read.leaves)
    by_step used Bad left fed within read is takes leaves = absurd (no_body (sym body_is ∙ read.body))
      where
        no_body : {p : Bytes} → no_data (Done rest) ≡ record { payload = p; outcome = NoBody } → ⊥
        no_body same = absurd (cc (ap (λ (b : Delimited). b.outcome) same))
    by_step used Idle left fed within read is takes leaves = absurd (not_over (sym body_is ∙ read.body))
      where
        not_over : {p : Bytes} → no_data (Done rest) ≡ record { payload = p; outcome = Going } → ⊥
        not_over same = absurd (cc (ap (λ (b : Delimited). b.outcome) same))

    pub ends_there : IsStepOn (going_on (find (is_number n) y.peers)) shelf n (remaining rest []) y next behind → Result
    ends_there on = by (subst (λ (o : Option Peer). IsStepOn o shelf n (remaining rest []) y next behind) goes on)
      where
        by : IsStep shelf n it.peer (remaining rest []) y next behind → Result
        by one =
            by_step one.told.0 one.told.1 one.feeds.left one.fed one.feeds.within
            (bodies a pipe.reading rest rest [] (awaited pipe.asks) one.told.0 one.told.1 one.feeds.left (reads_begin pipe.reading [] rest a reads) one.feeds.fed) one.feeds.leaves one.takes one.leaves

pub empties_end : EmptyBodiesEndAsTheLaws
empties_end before shelf x y next s n k e peer head rule over rest behind closes due it may empty on = (ends_there before shelf x y s n k e peer head rule closes due it may next over rest behind empty on).0
