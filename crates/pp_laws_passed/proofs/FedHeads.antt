-- Heads and bodies of responses: a response that is passed is told to the request of its exchange alone, and with its head.
use Rattle.std.proofs.Common.{◌≡◌, ◌⊎◌, refl, ℕ, zero, suc, ◌+◌, ◌<◌, Bool, true, false, not, ◌==◌, ◌&&◌, ◌||◌, List, [], ◌∷◌, ◌++◌, map, filter, find, cond, drop, length, Option, Some, None, Result, Ok, Err, codes, inl, inr, sym, subst, ap, ◌∙◌}
use Rattle.std.specs.List.{list_any}
use Rattle.pp_framing.specs.Body.{Outcome, Done, Going, Bad}
use Rattle.pp_framing.specs.Framing.{rule_of}
use Rattle.pp_framing.specs.Rules.{body_of}
use Rattle.pp_framing.specs.declared.body.BodyRule.{BodyRule}
use Rattle.pp_framing.specs.declared.framing.ResponseFault.{ResponseFault}
use Rattle.pp_head.specs.Read.{Read, Whole, TooLong, Bad as NoHead, More}
use Rattle.pp_head.specs.Response.{Response, response_at}
use Rattle.pp_objects.specs.Kept.{kept_of}
use Rattle.pp_pass.specs.Pipe.{Pipe, finished, spelled_end}
use Rattle.pp_pipe.specs.Front.{is_interim}
use Rattle.pp_target.specs.Key.{text_of}
use Rattle.pp_text.specs.Bytes.{is_empty}
use Rattle.pp_text.specs.Fields.{has_field}
use Rattle.pp_valid.specs.declared.version.Version.{Version}
use Rattle.pp_law.specs.Connections.{conn, exchange, is_conn, is_exchange, is_for, front_of_line, on_conn, on_exchange, on_client_of, without_ask, without_row, without_shared_row, is_unfilled, give_up_row, charge, lose_attempt, lost_one, attempts_of, end_exchange, close_conn}
use Rattle.pp_law.specs.Closing.{left_alone}
use Rattle.pp_law.specs.Lists.{Bytes, change, is_some_with, is_this}
use Rattle.pp_law.specs.OwnHeads.{key_of, is_asked_by, tell, use_body, drop_answer, useless, times_for, settle_on, span_to_come, may_refresh, settle_known, known_version, settle, may_join, names_version, nothing_to_come, settle_unchanged, unchanged, is_of_another, forbids_sharing, not_shared, not_modified, clears_row, is_private_part, is_widened, relayed, relay_head, other_head, other_part, own_head, is_bound, lacks_next, count_elsewhere, part_head, filling_head, version_in, is_wrong_head, join, join_bound, moved_on, note_sent}
use Rattle.pp_law.specs.Passing.{pour, poured, passed_by}
use Rattle.pp_law.specs.Responses.{skipping, skip_body, rested, close_this, may_go_on, finish, bad_response, bad_head, by_aim, asks_head, answer_with, answered_by, end_if_empty, begin_answer, answer_for, head_came, Piece, is_early, with_unread, head_piece, deliver, payload_of, body_piece_of, body_piece, next_piece, got, is_whole_at_end, finish_first, ended, bring_row}
use Rattle.pp_law.specs.Stages.{is_begun, is_headed, is_passing, is_pending, on_passed, passed_of, bound_in, bound_of}
use Rattle.pp_law.specs.State.{State, Aim, Through, Own, Filling, Answer, Body, Pending, Joining, Relaying, Dropping, Brought, Awaited, Useless, Joins, Passes, TooWide, Client, Stage, Undecided, Waiting, Passing, Answering, Reply, Conn, Exchange, Passed, Bound, Instance}
use Rattle.pp_law.specs.Table.{row, clear, swept}
use Rattle.pp_law.specs.ThroughHeads.{through_head}
use Rattle.pp_laws.specs.Numbers.{AreRising}
use Rattle.pp_laws.specs.Runs.{IsIn}
use Rattle.pp_laws.proofs.Heads.{bring_row-sound}
use Rattle.pp_laws.proofs.Untouched.{bring_row-untouched, same_front}
use Rattle.pp_laws.proofs.Lists.{Changed, From, in_change, in_filter, in_find, in_map, one_of, other, rise_change, same}
use Rattle.pp_laws.proofs.Pieces.{front_by, next_piece-sound}
use Rattle.pp_laws.proofs.Sound.{Since, Sound, facts_of as sound_facts, client_number, conn_number, exchange_number, first_of, source_in}
use Rattle.pp_laws.proofs.Tests.{first_holds, number_same, same_number, second_holds}
use Rattle.pp_laws_replies.proofs.Quiet.{Quietly, facts_of as quiet_facts, quiet_same, quietly}
use Rattle.pp_laws_replies.proofs.QuietHeads.{by_aim-quiet}
use Rattle.pp_laws_passed.specs.Passed.{is_in_passed}
use Rattle.pp_laws_passed.proofs.Cases.{by_outcome, by_result, each_of, each_so, when}
use Rattle.pp_laws_passed.proofs.Fed.{Answers, AreAnswered, Fed, Feeds, FactsOf, FromConn, Grows, Keeps, Relays, SameClient, SameExchange, Tale, amid, clients_changed, facts_across, grows_not, itself_client, itself_exchange, parts_across, exchange_same, exchanges_changed, facts_of, fed, is_in_other, itself_conn, not_passed, over_amid, parts_same, still, weaker}
use Rattle.pp_laws_passed.proofs.Delivered.{payload_grown, poured_ends, relays_finished, relays_poured}
use Rattle.pp_laws_replies.proofs.HasRows.{HasRow, make_row-has, renewed-has}
use Rattle.pp_laws.proofs.Payloads.{payload-nothing}
use Rattle.pp_laws_passed.proofs.FedAsks.{close_conn-fed, end_exchange-fed, fail-fed, lose_attempt-fed, on_client_of-fed, on_conn-fed, without_row-by}
use Rattle.pp_laws_passed.proofs.Same.{PartsOf, Same, facts_of as parts_of, itself}
use Rattle.pp_laws_passed.proofs.SameHeads.{bring_row-same, cleared_by-same, disproved-same, invalidated-same, join-same, note_sent-same, renew_row-same}
use Rattle.pp_laws_passed.proofs.SameRows.{clear-same, make_row-same}

-- ---- with these connections, and exchanges that come from these

-- an exchange with this asker comes from one of that number and asker
pub record Descent (es : List Exchange) (x : Exchange) (n : ℕ) : Type 0 where
  pub was : Exchange
  pub there : IsIn was es
  pub number : x.number ≡ was.number
  pub asker : was.asker ≡ Some n

abbrev pub Descend : List Exchange → List Exchange → Type 0
Descend es xs = (x : Exchange) (n : ℕ) → IsIn x xs → x.asker ≡ Some n → Descent es x n

descend_self : (es : List Exchange) → Descend es es
descend_self es x n i is = record { was = x; there = i; number = refl; asker = is }

descend_changed : (es xs : List Exchange) (p : Exchange → Bool) (f : Exchange → Exchange) → ((x : Exchange) → (f x).number ≡ x.number) → ((x : Exchange) (n : ℕ) → (f x).asker ≡ Some n → x.asker ≡ Some n) → Descend es xs → Descend es (change p f xs)
descend_changed es xs p f number asker from x n i is = by (in_change p f x xs i)
  where
    by : Changed p f xs x → Descent es x n
    by (same j isnt) = from x n j is
    by (other y j hit eq) =
        let w = from y n j (asker y n (sym (ap (λ (z : Exchange). z.asker) eq) ∙ is)) in
        record { was = w.was; there = w.there; number = ap exchange_number eq ∙ number y ∙ w.number; asker = w.asker }

pub record Ground : Type 0 where
  pub conns : List Conn
  pub exchanges : List Exchange
  pub next : ℕ

pub data Over (tale : Tale) (ground : Ground) (s : State) : Type 0 where
  over : Fed tale s → (s.conns ≡ ground.conns) × (s.next_exchange ≡ ground.next) → Descend ground.exchanges s.exchanges → Over tale ground s

module _ {tale : Tale} where
  over_fed : {ground : Ground} {s : State} → Over tale ground s → Fed tale s
  over_fed (over h conns from) = h

  over_conns : {ground : Ground} {s : State} → Over tale ground s → s.conns ≡ ground.conns
  over_conns (over h conns from) = conns.0

  over_next : {ground : Ground} {s : State} → Over tale ground s → s.next_exchange ≡ ground.next
  over_next (over h conns from) = conns.1

  over_from : {ground : Ground} {s : State} → Over tale ground s → Descend ground.exchanges s.exchanges
  over_from (over h conns from) = from

  over_same : {ground : Ground} {o s : State} → Same o s → Over tale ground o → Over tale ground s
  over_same {ground} so (over h conns from) = over (still so h) ((parts_of so).conns_same ∙ conns.0, (parts_of so).next_same ∙ conns.1) (subst (λ es. Descend ground.exchanges es) (sym (parts_of so).exchanges_same) from)

  over_when : {ground : Ground} (t : Bool) {x y : State} → Over tale ground x → Over tale ground y → Over tale ground (elim t as (λ c. State) [ true ↦ x | false ↦ y ])
  over_when true hx hy = hx
  over_when false hx hy = hy

  over_each : {A : Type 0} {ground : Ground} (o : Option A) {x : State} {y : A → State} → Over tale ground x → ((a : A) → Over tale ground (y a)) → Over tale ground (elim o as (λ c. State) [ None ↦ x | Some a ↦ y a ])
  over_each None hx hy = hx
  over_each (Some a) hx hy = hy a

-- ---- a request has one exchange

-- an exchange of the same client is this one
abbrev pub Lone : Exchange → List Exchange → Type 0
Lone e xs = (x : Exchange) (c : Client) → IsIn x xs → is_for x c ≡ true → is_for e c ≡ true → x.number ≡ e.number

pub asker_of : (e : Exchange) (c : Client) → is_for e c ≡ true → e.asker ≡ Some c.number
asker_of e c hit = by e.asker refl hit
  where
    by : (o : Option ℕ) → e.asker ≡ o → is_this c.number o ≡ true → e.asker ≡ Some c.number
    by None is has = absurd (cc has)
    by (Some m) is has = is ∙ ap (λ n. Some n) (same_number m c.number has)

pub lone_by : {tale : Tale} (e : Exchange) (s : State) (xs : List Exchange) → IsIn e s.exchanges → Descend s.exchanges xs → Fed tale s → Lone e xs
lone_by e s xs there from h x c i one two =
    let w = from x c.number i (asker_of x c one) in
    w.number ∙ (facts_of h).one w.was e c.number w.there there w.asker (asker_of e c two)

-- ---- what comes to the clients of an exchange

-- these data came for the request of each client of the exchange, and they are all or not
abbrev pub Comes : Tale → Exchange → List Client → Response → BodyRule → Bytes → Bool → Type 0
Comes tale e cs head rule content is_whole = (d : Client) → IsIn d cs → is_for e d ≡ true → tale.came d.number d.index head rule content is_whole

-- each client comes from one of that number and with that request
pub record Stem (cs : List Client) (d : Client) : Type 0 where
  pub was : Client
  pub there : IsIn was cs
  pub number : d.number ≡ was.number
  pub index : d.index ≡ was.index

abbrev pub Stems : List Client → List Client → Type 0
Stems cs ds = (d : Client) → IsIn d ds → Stem cs d

for_was : (e : Exchange) (d c : Client) → d.number ≡ c.number → is_for e d ≡ true → is_for e c ≡ true
for_was e d c number hit = ap (λ n. is_this n e.asker) (sym number) ∙ hit

pub comes_from : (tale : Tale) (e : Exchange) (cs ds : List Client) (head : Response) (rule : BodyRule) (content : Bytes) (is_whole : Bool) → Stems cs ds → Comes tale e cs head rule content is_whole → Comes tale e ds head rule content is_whole
comes_from tale e cs ds head rule content is_whole stems comes d i hit =
    let w = stems d i in
    subst (λ m. tale.came d.number m head rule content is_whole) (sym w.index) (subst (λ n. tale.came n w.was.index head rule content is_whole) (sym w.number) (comes w.was w.there (for_was e d w.was w.number hit)))

-- so far these data of the response went into its pipe, and the body goes on
pub record Flows (tale : Tale) (a : Answer) (content : Bytes) (d : Client) (p : Passed) : Type 0 where
  pub head : p.head ≡ a.head
  pub rule : p.rule ≡ a.rule
  pub going : p.pipe.is_finished ≡ false
  pub relays : Relays (tale.said d.number) d p content

abbrev pub Flow : Tale → Exchange → Answer → Bytes → List Client → Type 0
Flow tale e a content cs = (d : Client) (p : Passed) → IsIn d cs → is_for e d ≡ true → is_in_other d.stage ≡ false → passed_of d ≡ Some p → Flows tale a content d p

-- what becomes of clients that are the same leaves it
flow_same : {tale : Tale} (e : Exchange) (a : Answer) (content : Bytes) (test : Client → Bool) (f : Client → Client) (cs : List Client) → ((c : Client) → SameClient tale tale (f c) c) → Flow tale e a content cs → Flow tale e a content (change test f cs)
flow_same {tale} e a content test f cs kept flow d p i hit off has = by (in_change test f d cs i)
  where
    at : (c : Client) → IsIn c cs → d ≡ f c → Flows tale a content d p
    at c j eq =
        let so : SameClient tale tale d c = subst (λ (x : Client). SameClient tale tale x c) (sym eq) (kept c) in
        let q = so.passed p off has in
        let v = flow c q.0 j (for_was e d c so.number hit) q.1 q.2 in
        record { head = q.3.head ∙ v.head; rule = q.3.rule ∙ v.rule; going = q.3.ends ∙ v.going; relays = q.3.relays content v.relays }

    by : Changed test f cs d → Flows tale a content d p
    by (same j isnt) = flow d p j hit off has
    by (other c j it eq) = at c j eq

-- ---- an answer whose head came is told

-- the exchange is the first of its line, and has a place; this answer comes there; whoever was passed another response is in no reply
pub record Parts (tale : Tale) (e : Exchange) (a : Answer) (clients : List Client) (exchanges : List Exchange) (conns : List Conn) : Type 0 where
  pub there : IsIn e exchanges
  pub placed : ¬ (e.place ≡ None)
  pub nothing : payload_of a ≡ []
  pub line : (j : Conn) → IsIn j conns → IsIn e.number j.line → (first_of j.line ≡ Some e.number) × (j.answer ≡ Some a)
  pub waits : (c : Client) (p : Passed) → IsIn c clients → is_for e c ≡ true → is_in_other c.stage ≡ false → passed_of c ≡ Some p → is_begun c ≡ false
  pub comes : tale.follows ≡ true → Comes tale e clients a.head a.rule [] false

pub data Coming (tale : Tale) (e : Exchange) (a : Answer) (s : State) : Type 0 where
  coming : Parts tale e a s.clients s.exchanges s.conns → Coming tale e a s

parts : {tale : Tale} {e : Exchange} {a : Answer} {s : State} → Coming tale e a s → Parts tale e a s.clients s.exchanges s.conns
parts (coming p) = p

along : {tale : Tale} {e : Exchange} {a : Answer} {o s : State} → Same o s → Coming tale e a o → Coming tale e a s
along {tale} {e} {a} {o} {s} so p = coming (record {
  there = subst (λ es. IsIn e es) (sym q.exchanges_same) (parts p).there;
  placed = (parts p).placed;
  nothing = (parts p).nothing;
  line = λ j i. (parts p).line j (subst (λ ks. IsIn j ks) q.conns_same i);
  waits = λ c x i. (parts p).waits c x (subst (λ cs. IsIn c cs) q.clients_same i);
  comes = λ on d i. (parts p).comes on d (subst (λ cs. IsIn d cs) q.clients_same i);
})
  where
    q : PartsOf o s
    q = parts_of so

passes_it : (c : Client) (b : Brought) (p : Passed) → passed_of (record c { brought = b }) ≡ Some p → b ≡ Passes p
passes_it c Awaited p is = absurd (cc is)
passes_it c Useless p is = absurd (cc is)
passes_it c (Joins id plain) p is = absurd (cc is)
passes_it c (Passes q) p is = let eq : q ≡ p = cc in ap Passes eq
passes_it c TooWide p is = absurd (cc is)

-- of the head that is told; nothing of its body is in the pipe
abbrev pub Tells : Answer → Brought → Type 0
Tells a b = (p : Passed) → b ≡ Passes p → (p.head ≡ a.head) × (p.rule ≡ a.rule) × (p.pipe.bytes ≡ []) × (p.pipe.is_finished ≡ false)

not_begun : (t b : Bool) → (t && not b) ≡ true → b ≡ false
not_begun true true is = absurd (cc is)
not_begun true false is = refl
not_begun false b is = absurd (cc is)

asked_off : (e : Exchange) (c : Client) → is_asked_by e c ≡ false → is_for e c ≡ true → is_begun c ≡ false → ⊥
asked_off e c off hit isnt = by (is_for e c) (is_begun c) off hit isnt
  where
    by : (t b : Bool) → (t && not b) ≡ false → t ≡ true → b ≡ false → ⊥
    by true false is one two = cc is
    by true true is one two = cc two
    by false b is one two = cc one

-- nothing of its data came
told_nothing : (tale : Tale) (e : Exchange) (b : Brought) (d : Client) (q : Passed) → is_asked_by e d ≡ true → q.pipe.bytes ≡ [] → q.pipe.is_finished ≡ false → Relays (tale.said d.number) (record d { brought = b }) q []
told_nothing tale e b d q asked none going = record {
  pieces = [];
  all = refl;
  full = λ piece i. absurd i;
  waiting = λ off. none ∙ sym (ap (λ t. elim t as (λ c. Bytes) [ true ↦ spelled_end q.pipe.is_coded | false ↦ [] ]) going);
  shown = λ on. let both : false ≡ true = sym (not_passed d (not_begun (is_for e d) (is_begun d) asked)) ∙ on in absurd (cc both);
}

-- a head came to the exchange, and those whose exchange it is were told of it, or of nothing that is passed
pub data Told (tale : Tale) (e : Exchange) (a : Answer) (s : State) : Type 0 where
  are_told : ((x : Exchange) → IsIn x s.exchanges → x.number ≡ e.number → is_headed x ≡ true) → Flow tale e a [] s.clients → Told tale e a s

told_headed : {tale : Tale} {e : Exchange} {a : Answer} {s : State} → Told tale e a s → (x : Exchange) → IsIn x s.exchanges → x.number ≡ e.number → is_headed x ≡ true
told_headed (are_told headed flow) = headed

told_flow : {tale : Tale} {e : Exchange} {a : Answer} {s : State} → Told tale e a s → Flow tale e a [] s.clients
told_flow (are_told headed flow) = flow

module _ {tale : Tale} where
  told : (e : Exchange) (a : Answer) (b : Brought) (body : Body) (s : State) → is_pending body ≡ false → Tells a b → Coming tale e a s → Fed tale s → Fed tale (tell e b (use_body e body s))
  unfolding tell use_body on_exchange
  told e a b body s came tells p hs = fed (record {
    apart = rise_change client_number (is_asked_by e) with_it (λ c. refl) s.clients h.apart;
    rise = rise_change exchange_number (is_exchange e.number) with_body (λ x. refl) s.exchanges h.rise;
    given = λ x i. given_by x (at x i);
    one = λ x y n i j one two. one_by x y n (at x i) (at y j) one two;
    headed = λ x i is. headed_by x (at x i) is;
    sourced = λ c id i on is. sourced_by c id (of c i) on is;
    begun = λ x c i j hit on. begun_by x c (at x i) (of c j) hit on;
    fed_by = λ k x c q l i m is j hit off has. fed_at k x c q l (at x i) m is (of c j) hit off has;
    answers = λ on k y n i is named. let v = h.answers on k y n i is named in record { below = v.below; headed = λ x j number. headed_still n v x (at x j) number };
    kept = λ on c q j off has. kept_at on c q (of c j) off has;
  })
    where
      h : FactsOf tale s
      h = facts_of hs

      with_it : Client → Client
      with_it c = record c { brought = b }

      with_body : Exchange → Exchange
      with_body x = record x { body = body }

      at : (x : Exchange) → IsIn x (change (is_exchange e.number) (λ y. record y { body = body }) s.exchanges) → Changed (is_exchange e.number) (λ y. record y { body = body }) s.exchanges x
      at x i = in_change (is_exchange e.number) (λ y. record y { body = body }) x s.exchanges i

      of : (c : Client) → IsIn c (change (is_asked_by e) (λ d. record d { brought = b }) s.clients) → Changed (is_asked_by e) (λ d. record d { brought = b }) s.clients c
      of c i = in_change (is_asked_by e) (λ d. record d { brought = b }) c s.clients i

      -- the one of that number is it
      it : (y : Exchange) → IsIn y s.exchanges → is_exchange e.number y ≡ true → y ≡ e
      it y i hit = one_of exchange_number s.exchanges y e h.rise i (parts p).there (same_number y.number e.number hit)

      given_by : (x : Exchange) → Changed (is_exchange e.number) (λ y. record y { body = body }) s.exchanges x → x.number < s.next_exchange
      given_by x (same i isnt) = h.given x i
      given_by x (other y i hit eq) = subst (λ n. n < s.next_exchange) (sym (ap exchange_number eq)) (h.given y i)

      one_by : (x y : Exchange) (n : ℕ) → Changed (is_exchange e.number) (λ z. record z { body = body }) s.exchanges x → Changed (is_exchange e.number) (λ z. record z { body = body }) s.exchanges y → x.asker ≡ Some n → y.asker ≡ Some n → x.number ≡ y.number
      one_by x y n (same i isnt) (same j isnt2) one two = h.one x y n i j one two
      one_by x y n (same i isnt) (other z j hit eq) one two = h.one x z n i j one (sym (ap (λ (w : Exchange). w.asker) eq) ∙ two) ∙ sym (ap exchange_number eq)
      one_by x y n (other z i hit eq) (same j isnt) one two = ap exchange_number eq ∙ h.one z y n i j (sym (ap (λ (w : Exchange). w.asker) eq) ∙ one) two
      one_by x y n (other z i hit eq) (other w j hit2 eq2) one two =
          ap exchange_number eq ∙ h.one z w n i j (sym (ap (λ (v : Exchange). v.asker) eq) ∙ one) (sym (ap (λ (v : Exchange). v.asker) eq2) ∙ two) ∙ sym (ap exchange_number eq2)

      headed_by : (x : Exchange) → Changed (is_exchange e.number) (λ y. record y { body = body }) s.exchanges x → is_headed x ≡ true → ¬ (x.place ≡ None)
      headed_by x (same i isnt) is none = h.headed x i is none
      headed_by x (other y i hit eq) is none = (parts p).placed (sym (ap (λ (z : Exchange). z.place) (it y i hit)) ∙ sym (ap (λ (z : Exchange). z.place) eq) ∙ none)

      sourced_by : (c : Client) (id : ℕ) → Changed (is_asked_by e) (λ d. record d { brought = b }) s.clients c → is_in_passed c.stage ≡ true → source_in c.stage ≡ Some id → ⊥
      sourced_by c id (same i isnt) on is = h.sourced c id i on is
      sourced_by c id (other d i hit eq) on is = h.sourced d id i (sym (ap (λ (x : Client). is_in_passed x.stage) eq) ∙ on) (sym (ap (λ (x : Client). source_in x.stage) eq) ∙ is)

      -- it has its head
      headed_now : (x y : Exchange) → x ≡ record y { body = body } → is_headed x ≡ true
      headed_now x y eq = ap (λ (z : Exchange). is_headed z) eq ∙ ap not came

      begun_in : (x : Exchange) (c : Client) → Changed (is_exchange e.number) (λ y. record y { body = body }) s.exchanges x → IsIn c s.clients → is_for x c ≡ true → is_in_passed c.stage ≡ true → is_headed x ≡ true
      begun_in x c (same i isnt) j hit on = h.begun x c i j hit on
      begun_in x c (other y i it_is eq) j hit on = headed_now x y eq

      begun_by : (x : Exchange) (c : Client) → Changed (is_exchange e.number) (λ y. record y { body = body }) s.exchanges x → Changed (is_asked_by e) (λ d. record d { brought = b }) s.clients c → is_for x c ≡ true → is_in_passed c.stage ≡ true → is_headed x ≡ true
      begun_by x c w (same j isnt) hit on = begun_in x c w j hit on
      begun_by x c w (other d j asked eq) hit on = begun_in x d w j (sym (ap (λ (z : Client). is_for x z) eq) ∙ hit) (sym (ap (λ (z : Client). is_in_passed z.stage) eq) ∙ on)

      -- a request has one exchange
      alone : (x : Exchange) (c : Client) → IsIn x s.exchanges → is_exchange e.number x ≡ false → is_for x c ≡ true → is_for e c ≡ true → ⊥
      alone x c i isnt one two = by x.asker e.asker refl refl one two
        where
          by : (m n : Option ℕ) → x.asker ≡ m → e.asker ≡ n → is_this c.number m ≡ true → is_this c.number n ≡ true → ⊥
          by None n a b first second = cc first
          by (Some m) None a b first second = cc second
          by (Some m) (Some n) a b first second =
              let number : x.number ≡ e.number = h.one x e c.number i (parts p).there (a ∙ ap (λ k. Some k) (same_number m c.number first)) (b ∙ ap (λ k. Some k) (same_number n c.number second)) in
              let both : false ≡ true = sym isnt ∙ ap (λ k. k == e.number) number ∙ number_same e.number in cc both

      fed_told : (k : Conn) (x : Exchange) (d : Client) (q : Passed) → IsIn k s.conns → Changed (is_exchange e.number) (λ y. record y { body = body }) s.exchanges x → IsIn x.number k.line → is_for x d ≡ true → is_asked_by e d ≡ true → b ≡ Passes q → Feeds tale k x (record d { brought = b }) q
      fed_told k x d q l (same i isnt) m hit asked has = absurd (alone x d i isnt hit (first_holds (is_for e d) (not (is_begun d)) asked))
      fed_told k x d q l (other y i it_is eq) m hit asked has =
          let number : x.number ≡ e.number = ap exchange_number eq ∙ same_number y.number e.number it_is in
          let w = (parts p).line k l (subst (λ n. IsIn n k.line) number m) in
          let t = tells q has in
          record { front = w.0 ∙ ap (λ n. Some n) (sym number); answer = a; is = w.1; head = t.0; rule = t.1; relayed = λ isnt. subst (Relays (tale.said d.number) (record d { brought = b }) q) (sym (parts p).nothing) (told_nothing tale e b d q asked t.2 t.3); going = λ isnt. t.3 }

      fed_same : (k : Conn) (x : Exchange) (c : Client) (q : Passed) → IsIn k s.conns → Changed (is_exchange e.number) (λ y. record y { body = body }) s.exchanges x → IsIn x.number k.line → is_headed x ≡ true → IsIn c s.clients → is_asked_by e c ≡ false → is_for x c ≡ true
          → is_in_other c.stage ≡ false → passed_of c ≡ Some q → Feeds tale k x c q
      fed_same k x c q l (same i isnt) m is j asked hit off has = h.fed_by k x c q l i m is j hit off has
      fed_same k x c q l (other y i it_is eq) m is j asked hit off has =
          let its : is_for e c ≡ true = ap (λ (z : Exchange). is_for z c) (sym (it y i it_is)) ∙ sym (ap (λ (z : Exchange). is_for z c) eq) ∙ hit in
          absurd (asked_off e c asked its ((parts p).waits c q j its off has))

      fed_at : (k : Conn) (x : Exchange) (c : Client) (q : Passed) → IsIn k s.conns → Changed (is_exchange e.number) (λ y. record y { body = body }) s.exchanges x → IsIn x.number k.line → is_headed x ≡ true → Changed (is_asked_by e) (λ d. record d { brought = b }) s.clients c
          → is_for x c ≡ true → is_in_other c.stage ≡ false → passed_of c ≡ Some q → Feeds tale k x c q
      fed_at k x c q l w m is (same j isnt) hit off has = fed_same k x c q l w m is j isnt hit off has
      fed_at k x c q l w m is (other d j asked eq) hit off has =
          subst (λ (z : Client). Feeds tale k x z q) (sym eq) (fed_told k x d q l w m (sym (ap (λ (z : Client). is_for x z) eq) ∙ hit) asked (passes_it d b q (sym (ap passed_of eq) ∙ has)))

      headed_still : (n : ℕ) → Answers n s.exchanges s.next_exchange → (x : Exchange) → Changed (is_exchange e.number) (λ y. record y { body = body }) s.exchanges x → x.number ≡ n → is_headed x ≡ true
      headed_still n v x (same i isnt) number = v.headed x i number
      headed_still n v x (other y i it_is eq) number = headed_now x y eq

      kept_told : tale.follows ≡ true → (d : Client) (q : Passed) → IsIn d s.clients → is_asked_by e d ≡ true → b ≡ Passes q → Keeps tale (record d { brought = b }) q
      kept_told on d q j asked has =
          let t = tells q has in
          record {
            content = [];
            came = subst (λ fin. tale.came d.number d.index q.head q.rule [] fin) (sym t.3)
                (subst (λ r. tale.came d.number d.index q.head r [] false) (sym t.1)
                (subst (λ x. tale.came d.number d.index x a.rule [] false) (sym t.0) ((parts p).comes on d j (first_holds (is_for e d) (not (is_begun d)) asked))));
            relays = told_nothing tale e b d q asked t.2 t.3;
          }

      kept_at : tale.follows ≡ true → (c : Client) (q : Passed) → Changed (is_asked_by e) (λ d. record d { brought = b }) s.clients c → is_in_other c.stage ≡ false → passed_of c ≡ Some q → Keeps tale c q
      kept_at on c q (same j isnt) off has = h.kept on c q j off has
      kept_at on c q (other d j asked eq) off has = subst (λ (z : Client). Keeps tale z q) (sym eq) (kept_told on d q j asked (passes_it d b q (sym (ap passed_of eq) ∙ has)))

  -- it has its head, and those whose exchange it is were told
  told_so : (e : Exchange) (a : Answer) (b : Brought) (body : Body) (s : State) → is_pending body ≡ false → Tells a b → Coming tale e a s → Told tale e a (tell e b (use_body e body s))
  unfolding tell use_body on_exchange
  told_so e a b body s came tells p = are_told headed_it flow_now
    where
      flow_now : Flow tale e a [] (change (is_asked_by e) (λ d. record d { brought = b }) s.clients)
      flow_now c q i hit off has = by (in_change (is_asked_by e) (λ d. record d { brought = b }) c s.clients i)
        where
          told_flows : (d : Client) → is_asked_by e d ≡ true → b ≡ Passes q → Flows tale a [] (record d { brought = b }) q
          told_flows d asked it_is = let t = tells q it_is in record { head = t.0; rule = t.1; going = t.3; relays = told_nothing tale e b d q asked t.2 t.3 }

          by : Changed (is_asked_by e) (λ d. record d { brought = b }) s.clients c → Flows tale a [] c q
          by (same j isnt) = absurd (asked_off e c isnt hit ((parts p).waits c q j hit off has))
          by (other d j asked eq) = subst (λ (z : Client). Flows tale a [] z q) (sym eq) (told_flows d asked (passes_it d b q (sym (ap passed_of eq) ∙ has)))

      headed_it : (x : Exchange) → IsIn x (change (is_exchange e.number) (λ y. record y { body = body }) s.exchanges) → x.number ≡ e.number → is_headed x ≡ true
      headed_it x i number = by (in_change (is_exchange e.number) (λ y. record y { body = body }) x s.exchanges i)
        where
          by : Changed (is_exchange e.number) (λ y. record y { body = body }) s.exchanges x → is_headed x ≡ true
          by (same j isnt) = let both : false ≡ true = sym isnt ∙ ap (λ n. n == e.number) number ∙ number_same e.number in absurd (cc both)
          by (other y j it_is eq) = ap (λ (z : Exchange). is_headed z) eq ∙ ap not came

  told_over : {ground : Ground} (e : Exchange) (a : Answer) (b : Brought) (body : Body) (s : State) → is_pending body ≡ false → Tells a b → Coming tale e a s → Over tale ground s → Over tale ground (tell e b (use_body e body s))
  unfolding tell use_body on_exchange
  told_over {ground} e a b body s came tells p (over h conns from) = over (told e a b body s came tells p h) conns (descend_changed ground.exchanges s.exchanges (is_exchange e.number) (λ x. record x { body = body }) (λ x. refl) (λ x n is. is) from)

-- nothing is passed
no_pass : (a : Answer) (b : Brought) → ((p : Passed) → b ≡ Passes p → ⊥) → Tells a b
no_pass a b none p is = absurd (none p is)

-- ---- what the head of an exchange of the cache's own does

given_up_conns : (e : Exchange) (s : State) → (give_up_row e s).conns ≡ s.conns
unfolding give_up_row on_exchange on_client_of clear swept
given_up_conns e s = by (is_unfilled s e)
  where
    by : (t : Bool) → (elim t as (λ x. State) [ false ↦ s | true ↦ on_exchange e.number left_alone (on_client_of e without_row (clear (text_of e.key) s)) ]).conns ≡ s.conns
    by false = refl
    by true = refl

given_up_next : (e : Exchange) (s : State) → (give_up_row e s).next_exchange ≡ s.next_exchange
unfolding give_up_row on_exchange on_client_of clear swept
given_up_next e s = by (is_unfilled s e)
  where
    by : (t : Bool) → (elim t as (λ x. State) [ false ↦ s | true ↦ on_exchange e.number left_alone (on_client_of e without_row (clear (text_of e.key) s)) ]).next_exchange ≡ s.next_exchange
    by false = refl
    by true = refl

given_up_from : (es : List Exchange) (e : Exchange) (s : State) → Descend es s.exchanges → Descend es (give_up_row e s).exchanges
unfolding give_up_row on_exchange on_client_of clear swept
given_up_from es e s from = by (is_unfilled s e)
  where
    by : (t : Bool) → Descend es (elim t as (λ x. State) [ false ↦ s | true ↦ on_exchange e.number left_alone (on_client_of e without_row (clear (text_of e.key) s)) ]).exchanges
    by false = from
    by true = descend_changed es s.exchanges (is_exchange e.number) left_alone (λ x. refl) (λ x n is. absurd (cc is)) from

module _ {tale : Tale} where
  lose_attempt-over : {ground : Ground} (e : Exchange) (s : State) → Over tale ground s → Over tale ground (lose_attempt e s)
  unfolding lose_attempt charge on_client_of
  lose_attempt-over {ground} e s (over h conns from) = over (lose_attempt-fed e s h) (given_up_conns e _ ∙ conns.0, given_up_next e _ ∙ conns.1) (given_up_from ground.exchanges e _ from)

  drop_answer-over : {ground : Ground} (e : Exchange) (a : Answer) (s : State) → Coming tale e a s → Over tale ground s → Over tale ground (drop_answer e s)
  unfolding drop_answer
  drop_answer-over e a s p h = told_over e a Useless Dropping s refl (no_pass a Useless (λ q is. cc is)) p h

  useless-over : {ground : Ground} (e : Exchange) (a : Answer) (s : State) → Coming tale e a s → Over tale ground s → Over tale ground (useless e s)
  unfolding useless
  useless-over e a s p h = lose_attempt-over e _ (drop_answer-over e a s p h)

  settle_on-over : {ground : Ground} (e : Exchange) (a : Answer) (head : Response) (v : Version) (s : State) → Coming tale e a s → Over tale ground s → Over tale ground (settle_on e head v s)
  unfolding settle_on
  settle_on-over e a head v s p h = over_each (row s (key_of e)) h (λ x. told_over e a _ _ s refl (no_pass a _ (λ q is. cc is)) p h)

  settle_known-over : {ground : Ground} (e : Exchange) (a : Answer) (head : Response) (v : Version) (s : State) → Coming tale e a s → Over tale ground s → Over tale ground (settle_known e head v s)
  unfolding settle_known
  settle_known-over e a head v s p h =
      let r = renew_row-same e head s (itself s) in
      over_when (may_refresh e head s) (settle_on-over e a head v _ (along r p) (over_same r h)) (useless-over e a s p h)

  settle-over : {ground : Ground} (e : Exchange) (a : Answer) (head : Response) (v : Version) (s : State) → Coming tale e a s → Over tale ground s → Over tale ground (settle e head v s)
  unfolding settle
  settle-over e a head v s p h =
      let r = make_row-same (key_of e) v (kept_of head.fields (times_for e head s)) (times_for e head s) s (itself s) in
      over_when (is_some_with (may_join e head v) (known_version s (key_of e))) (settle_known-over e a head v s p h) (settle_on-over e a head v _ (along r p) (over_same r h))

  settle_unchanged-over : {ground : Ground} (e : Exchange) (a : Answer) (s : State) → Coming tale e a s → Over tale ground s → Over tale ground (settle_unchanged e s)
  unfolding settle_unchanged
  settle_unchanged-over e a s p h = over_each (row s (key_of e)) h (λ x. told_over e a _ _ s refl (no_pass a _ (λ q is. cc is)) p h)

  unchanged-over : {ground : Ground} (e : Exchange) (a : Answer) (head : Response) (s : State) → Coming tale e a s → Over tale ground s → Over tale ground (unchanged e head s)
  unfolding unchanged
  unchanged-over e a head s p h =
      let r = renew_row-same e head s (itself s) in
      over_when (is_some_with (names_version e) (known_version s (key_of e)) && may_refresh e head s) (settle_unchanged-over e a _ (along r p) (over_same r h)) (useless-over e a s p h)

  without_shared_row_same : (most : ℕ) (c : Client) → SameClient tale tale (without_shared_row most c) c
  without_shared_row_same most c = by (c.has_given_up && not (is_begun c))
    where
      by : (again : Bool) → SameClient tale tale (elim again as (λ x. Client) [ true ↦ record c { course = lost_one most c.course } | false ↦ without_row c ]) c
      by true = parts_same _ c refl refl refl refl refl
      by false = without_row-by c (is_begun c || c.has_given_up)

  on_client_of-over : {ground : Ground} (e : Exchange) (f : Client → Client) (s : State) → ((c : Client) → SameClient tale tale (f c) c) → Over tale ground s → Over tale ground (on_client_of e f s)
  unfolding on_client_of
  on_client_of-over e f s kept (over h conns from) = over (on_client_of-fed e f s kept h) conns from

  not_shared-over : {ground : Ground} (e : Exchange) (a : Answer) (s : State) → Coming tale e a s → Over tale ground s → Over tale ground (not_shared e s)
  unfolding not_shared
  not_shared-over e a s p h =
      let r = clear-same (key_of e) s (itself s) in
      on_client_of-over e (without_shared_row (attempts_of e)) _ (without_shared_row_same (attempts_of e)) (drop_answer-over e a _ (along r p) (over_same r h))

  not_modified-over : {ground : Ground} (e : Exchange) (a : Answer) (head : Response) (s : State) → Coming tale e a s → Over tale ground s → Over tale ground (not_modified e head s)
  unfolding not_modified
  not_modified-over e a head s p h =
      let r = clear-same (key_of e) s (itself s) in
      over_when (forbids_sharing head) (not_shared-over e a s p h) (over_when (is_of_another head s (key_of e)) (useless-over e a _ (along r p) (over_same r h)) (unchanged-over e a head s p h))

-- there is one where the test holds of it
some_with : {A : Type 0} (test : A → Bool) (o : Option A) → is_some_with test o ≡ true → o ≡ None → ⊥
some_with test o is none = let both : false ≡ true = sym (ap (is_some_with test) none) ∙ is in cc both

-- the head of a response that is passed
tells_head : (e : Exchange) (head : Response) (rule : BodyRule) → Tells (answer_with e head rule) (Passes (passed_by e head rule))
tells_head e head rule q is =
    let eq : passed_by e head rule ≡ q = cc in (sym (ap (λ (x : Passed). x.head) eq), sym (ap (λ (x : Passed). x.rule) eq), sym (ap (λ (x : Passed). x.pipe.bytes) eq), sym (ap (λ (x : Passed). x.pipe.is_finished) eq))

relayed_some : (t : Bool) → is_pending (elim t as (λ c. Body) [ true ↦ Relaying | false ↦ Dropping ]) ≡ false
relayed_some true = refl
relayed_some false = refl

module _ {tale : Tale} where
  relay_head-over : {ground : Ground} (e : Exchange) (head : Response) (rule : BodyRule) (s : State) → Coming tale e (answer_with e head rule) s → Over tale ground s → Over tale ground (relay_head e head rule s)
  unfolding relay_head
  relay_head-over e head rule s p h = told_over e (answer_with e head rule) (Passes (passed_by e head rule)) (relayed e s) s (relayed_some (list_any (is_asked_by e) s.clients)) (tells_head e head rule) p h

  other_head-over : {ground : Ground} (e : Exchange) (head : Response) (rule : BodyRule) (s : State) → Coming tale e (answer_with e head rule) s → Over tale ground s → Over tale ground (other_head e head rule s)
  unfolding other_head
  other_head-over e head rule s p h =
      let r = cleared_by-same head e s (itself s) in
      over_when (is_widened e head) (told_over e (answer_with e head rule) TooWide Dropping _ refl (no_pass (answer_with e head rule) TooWide (λ q is. cc is)) (along r p) (over_same r h)) (relay_head-over e head rule _ (along r p) (over_same r h))

  other_part-over : {ground : Ground} (e : Exchange) (head : Response) (rule : BodyRule) (s : State) → Coming tale e (answer_with e head rule) s → Over tale ground s → Over tale ground (other_part e head rule s)
  unfolding other_part
  other_part-over e head rule s p h =
      let r = cleared_by-same head e s (itself s) in
      over_when (is_private_part head) (not_shared-over e (answer_with e head rule) s p h) (over_when (clears_row head) (relay_head-over e head rule _ (along r p) (over_same r h)) (useless-over e (answer_with e head rule) s p h))

  own_head-over : {ground : Ground} (e : Exchange) (head : Response) (rule : BodyRule) (s : State) → Coming tale e (answer_with e head rule) s → Over tale ground s → Over tale ground (own_head e head rule s)
  unfolding own_head
  own_head-over e head rule s p h =
      over_each (version_in e head) (over_when (head.status == 304) (not_modified-over e (answer_with e head rule) head s p h) (other_head-over e head rule s p h)) (λ v. settle-over e (answer_with e head rule) head v s p h)

  count_elsewhere-over : {ground : Ground} (e : Exchange) (s : State) → Over tale ground s → Over tale ground (count_elsewhere e s)
  unfolding count_elsewhere
  count_elsewhere-over e s h = over_when (is_some_with is_bound (exchange s e.number) && list_any (λ c. is_for e c && lacks_next s c) s.clients) (lose_attempt-over e s h) h

  part_head-over : {ground : Ground} (e : Exchange) (head : Response) (rule : BodyRule) (s : State) → Coming tale e (answer_with e head rule) s → Over tale ground s → Over tale ground (part_head e head rule s)
  unfolding part_head
  part_head-over e head rule s p h =
      over_each (version_in e head) (over_when (head.status == 304) (not_modified-over e (answer_with e head rule) head s p h) (other_part-over e head rule s p h)) (λ v. settle-over e (answer_with e head rule) head v s p h)

  filling_head-over : {ground : Ground} (e : Exchange) (head : Response) (rule : BodyRule) (s : State) → Coming tale e (answer_with e head rule) s → Over tale ground s → Over tale ground (filling_head e head rule s)
  unfolding filling_head
  filling_head-over e head rule s p h = count_elsewhere-over e _ (part_head-over e head rule s p h)

  through_head-over : {ground : Ground} (e : Exchange) (head : Response) (rule : BodyRule) (s : State) → Coming tale e (answer_with e head rule) s → Over tale ground s → Over tale ground (through_head e head rule s)
  unfolding through_head
  through_head-over e head rule s p h =
      let r = disproved-same e head _ (invalidated-same e head s (itself s)) in
      relay_head-over e head rule _ (along r p) (over_same r h)

  over_aim : {ground : Ground} (aim : Aim) {x y : State} {z : Version → ℕ → ℕ → State} → Over tale ground x → Over tale ground y → ((v : Version) (from to : ℕ) → Over tale ground (z v from to)) → Over tale ground (elim aim as (λ c. State) [ Through ↦ x | Own ↦ y | Filling v from to ↦ z v from to ])
  over_aim Through hx hy hz = hx
  over_aim Own hx hy hz = hy
  over_aim (Filling v from to) hx hy hz = hz v from to

  by_aim-over : {ground : Ground} (e : Exchange) (head : Response) (rule : BodyRule) (s : State) → Coming tale e (answer_with e head rule) s → Over tale ground s → Over tale ground (by_aim e head rule s)
  unfolding by_aim
  by_aim-over e head rule s p h = over_aim e.aim (through_head-over e head rule s p h) (own_head-over e head rule s p h) (λ v from to. filling_head-over e head rule s p h)

  -- ---- its exchange has its head then, and its clients are told

  when_told : {e : Exchange} {a : Answer} (t : Bool) {x y : State} → Told tale e a x → Told tale e a y → Told tale e a (elim t as (λ c. State) [ true ↦ x | false ↦ y ])
  when_told true hx hy = hx
  when_told false hx hy = hy

  -- where the test's answer is of use
  when_told_so : {e : Exchange} {a : Answer} (t : Bool) {x y : State} → (t ≡ true → Told tale e a x) → Told tale e a y → Told tale e a (elim t as (λ c. State) [ true ↦ x | false ↦ y ])
  when_told_so true hx hy = hx refl
  when_told_so false hx hy = hy

  each_told : {A : Type 0} {e : Exchange} {a : Answer} (o : Option A) {x : State} {y : A → State} → Told tale e a x → ((v : A) → Told tale e a (y v)) → Told tale e a (elim o as (λ c. State) [ None ↦ x | Some v ↦ y v ])
  each_told None hx hy = hx
  each_told (Some v) hx hy = hy v

  on_client_of-told : {e : Exchange} {a : Answer} (d : Exchange) (f : Client → Client) (s : State) → ((c : Client) → SameClient tale tale (f c) c) → Told tale e a s → Told tale e a (on_client_of d f s)
  unfolding on_client_of
  on_client_of-told {e} {a} d f s kept (are_told headed flow) = are_told headed (flow_same e a [] (is_for d) f s.clients kept flow)

  give_up_row-told : {e : Exchange} {a : Answer} (d : Exchange) (s : State) → Told tale e a s → Told tale e a (give_up_row d s)
  unfolding give_up_row on_exchange on_client_of clear swept
  give_up_row-told {e} {a} d s (are_told headed flow) = by (is_unfilled s d)
    where
      still_headed : (x : Exchange) → Changed (is_exchange d.number) left_alone s.exchanges x → x.number ≡ e.number → is_headed x ≡ true
      still_headed x (same i isnt) number = headed x i number
      still_headed x (other y i hit eq) number = ap (λ (z : Exchange). is_headed z) eq ∙ headed y i (sym (ap exchange_number eq) ∙ number)

      by : (t : Bool) → Told tale e a (elim t as (λ x. State) [ false ↦ s | true ↦ on_exchange d.number left_alone (on_client_of d without_row (clear (text_of d.key) s)) ])
      by false = are_told headed flow
      by true = are_told (λ x i number. still_headed x (in_change (is_exchange d.number) left_alone x s.exchanges i) number) (flow_same e a [] (is_for d) without_row s.clients (λ c. without_row-by c (is_begun c || c.has_given_up)) flow)

  lose_attempt-told : {e : Exchange} {a : Answer} (d : Exchange) (s : State) → Told tale e a s → Told tale e a (lose_attempt d s)
  unfolding lose_attempt charge
  lose_attempt-told d s h = give_up_row-told d _ (on_client_of-told d (λ c. record c { course = lost_one (attempts_of d) c.course }) s (λ c. parts_same _ c refl refl refl refl refl) h)

  drop_answer-told : (e : Exchange) (a : Answer) (s : State) → Coming tale e a s → Told tale e a (drop_answer e s)
  unfolding drop_answer
  drop_answer-told e a s p = told_so e a Useless Dropping s refl (no_pass a Useless (λ q is. cc is)) p

  useless-told : (e : Exchange) (a : Answer) (s : State) → Coming tale e a s → Told tale e a (useless e s)
  unfolding useless
  useless-told e a s p = lose_attempt-told e _ (drop_answer-told e a s p)

  settle_on-told : (e : Exchange) (a : Answer) (head : Response) (v : Version) (s : State) → HasRow (key_of e) s → Coming tale e a s → Told tale e a (settle_on e head v s)
  unfolding settle_on
  settle_on-told e a head v s has p = by (row s (key_of e)) refl
    where
      by : (o : Option Instance) → row s (key_of e) ≡ o
          → Told tale e a (elim o as (λ c. State) [ None ↦ s | Some x ↦ tell e (Joins x.id (not (has_field (codes "age") head.fields))) (use_body e (Joining (span_to_come e head v x.id)) s) ])
      by None none = absurd (has none)
      by (Some x) is = told_so e a _ _ s refl (no_pass a _ (λ q so. cc so)) p

  settle_known-told : (e : Exchange) (a : Answer) (head : Response) (v : Version) (s : State) → (known_version s (key_of e) ≡ None → ⊥) → Coming tale e a s → Told tale e a (settle_known e head v s)
  unfolding settle_known
  settle_known-told e a head v s known p = when_told (may_refresh e head s) (settle_on-told e a head v _ (renewed-has e head s known) (along (renew_row-same e head s (itself s)) p)) (useless-told e a s p)

  settle-told : (e : Exchange) (a : Answer) (head : Response) (v : Version) (s : State) → Coming tale e a s → Told tale e a (settle e head v s)
  unfolding settle
  settle-told e a head v s p =
      when_told_so (is_some_with (may_join e head v) (known_version s (key_of e))) (λ is. settle_known-told e a head v s (some_with (may_join e head v) (known_version s (key_of e)) is) p)
      (settle_on-told e a head v _ (make_row-has (key_of e) v (kept_of head.fields (times_for e head s)) (times_for e head s) s) (along (make_row-same (key_of e) v (kept_of head.fields (times_for e head s)) (times_for e head s) s (itself s)) p))

  settle_unchanged-told : (e : Exchange) (a : Answer) (s : State) → HasRow (key_of e) s → Coming tale e a s → Told tale e a (settle_unchanged e s)
  unfolding settle_unchanged
  settle_unchanged-told e a s has p = by (row s (key_of e)) refl
    where
      by : (o : Option Instance) → row s (key_of e) ≡ o → Told tale e a (elim o as (λ c. State) [ None ↦ s | Some x ↦ tell e (Joins x.id false) (use_body e (Joining (nothing_to_come x)) s) ])
      by None none = absurd (has none)
      by (Some x) is = told_so e a _ _ s refl (no_pass a _ (λ q so. cc so)) p

  unchanged-told : (e : Exchange) (a : Answer) (head : Response) (s : State) → Coming tale e a s → Told tale e a (unchanged e head s)
  unfolding unchanged
  unchanged-told e a head s p =
      when_told_so (is_some_with (names_version e) (known_version s (key_of e)) && may_refresh e head s)
      (λ is. settle_unchanged-told e a _ (renewed-has e head s (some_with (names_version e) (known_version s (key_of e)) (first_holds (is_some_with (names_version e) (known_version s (key_of e))) (may_refresh e head s) is))) (along (renew_row-same e head s (itself s)) p))
      (useless-told e a s p)

  not_shared-told : (e : Exchange) (a : Answer) (s : State) → Coming tale e a s → Told tale e a (not_shared e s)
  unfolding not_shared
  not_shared-told e a s p = on_client_of-told e (without_shared_row (attempts_of e)) _ (without_shared_row_same (attempts_of e)) (drop_answer-told e a _ (along (clear-same (key_of e) s (itself s)) p))

  not_modified-told : (e : Exchange) (a : Answer) (head : Response) (s : State) → Coming tale e a s → Told tale e a (not_modified e head s)
  unfolding not_modified
  not_modified-told e a head s p =
      when_told (forbids_sharing head) (not_shared-told e a s p) (when_told (is_of_another head s (key_of e)) (useless-told e a _ (along (clear-same (key_of e) s (itself s)) p)) (unchanged-told e a head s p))

  relay_head-told : (e : Exchange) (head : Response) (rule : BodyRule) (s : State) → Coming tale e (answer_with e head rule) s → Told tale e (answer_with e head rule) (relay_head e head rule s)
  unfolding relay_head
  relay_head-told e head rule s p = told_so e (answer_with e head rule) (Passes (passed_by e head rule)) (relayed e s) s (relayed_some (list_any (is_asked_by e) s.clients)) (tells_head e head rule) p

  other_head-told : (e : Exchange) (head : Response) (rule : BodyRule) (s : State) → Coming tale e (answer_with e head rule) s → Told tale e (answer_with e head rule) (other_head e head rule s)
  unfolding other_head
  other_head-told e head rule s p =
      let r = along (cleared_by-same head e s (itself s)) p in
      when_told (is_widened e head) (told_so e (answer_with e head rule) TooWide Dropping _ refl (no_pass (answer_with e head rule) TooWide (λ q is. cc is)) r) (relay_head-told e head rule _ r)

  other_part-told : (e : Exchange) (head : Response) (rule : BodyRule) (s : State) → Coming tale e (answer_with e head rule) s → Told tale e (answer_with e head rule) (other_part e head rule s)
  unfolding other_part
  other_part-told e head rule s p =
      when_told (is_private_part head) (not_shared-told e (answer_with e head rule) s p)
      (when_told (clears_row head) (relay_head-told e head rule _ (along (cleared_by-same head e s (itself s)) p)) (useless-told e (answer_with e head rule) s p))

  own_head-told : (e : Exchange) (head : Response) (rule : BodyRule) (s : State) → Coming tale e (answer_with e head rule) s → Told tale e (answer_with e head rule) (own_head e head rule s)
  unfolding own_head
  own_head-told e head rule s p =
      each_told (version_in e head) (when_told (head.status == 304) (not_modified-told e (answer_with e head rule) head s p) (other_head-told e head rule s p)) (λ v. settle-told e (answer_with e head rule) head v s p)

  part_head-told : (e : Exchange) (head : Response) (rule : BodyRule) (s : State) → Coming tale e (answer_with e head rule) s → Told tale e (answer_with e head rule) (part_head e head rule s)
  unfolding part_head
  part_head-told e head rule s p =
      each_told (version_in e head) (when_told (head.status == 304) (not_modified-told e (answer_with e head rule) head s p) (other_part-told e head rule s p)) (λ v. settle-told e (answer_with e head rule) head v s p)

  filling_head-told : (e : Exchange) (head : Response) (rule : BodyRule) (s : State) → Coming tale e (answer_with e head rule) s → Told tale e (answer_with e head rule) (filling_head e head rule s)
  unfolding filling_head count_elsewhere
  filling_head-told e head rule s p =
      when_told (is_some_with is_bound (exchange (part_head e head rule s) e.number) && list_any (λ c. is_for e c && lacks_next (part_head e head rule s) c) (part_head e head rule s).clients)
      (lose_attempt-told e _ (part_head-told e head rule s p)) (part_head-told e head rule s p)

  through_head-told : (e : Exchange) (head : Response) (rule : BodyRule) (s : State) → Coming tale e (answer_with e head rule) s → Told tale e (answer_with e head rule) (through_head e head rule s)
  unfolding through_head
  through_head-told e head rule s p = relay_head-told e head rule _ (along (disproved-same e head _ (invalidated-same e head s (itself s))) p)

  aim_told : {e : Exchange} {a : Answer} (aim : Aim) {x y : State} {z : Version → ℕ → ℕ → State} → Told tale e a x → Told tale e a y → ((v : Version) (from to : ℕ) → Told tale e a (z v from to))
      → Told tale e a (elim aim as (λ c. State) [ Through ↦ x | Own ↦ y | Filling v from to ↦ z v from to ])
  aim_told Through hx hy hz = hx
  aim_told Own hx hy hz = hy
  aim_told (Filling v from to) hx hy hz = hz v from to

  by_aim-told : (e : Exchange) (head : Response) (rule : BodyRule) (s : State) → Coming tale e (answer_with e head rule) s → Told tale e (answer_with e head rule) (by_aim e head rule s)
  unfolding by_aim
  by_aim-told e head rule s p = aim_told e.aim (through_head-told e head rule s p) (own_head-told e head rule s p) (λ v from to. filling_head-told e head rule s p)

  -- ---- ends

  skip_body-over : {ground : Ground} (e : Exchange) (s : State) → Over tale ground s → Over tale ground (skip_body e s)
  unfolding skip_body on_client_of
  skip_body-over e s (over h conns came) = over_aim e.aim (over (fed (clients_changed s (is_for e) skipping (λ c. parts_same _ c refl refl refl refl refl) (facts_of h))) conns came) (over h conns came) (λ v from to. over h conns came)

  close_this-fed : (n : ℕ) (s : State) → Fed tale s → Fed tale (close_this n s)
  unfolding close_this
  close_this-fed n s h = each_of (conn s n) h (λ k. close_conn-fed true k s h)

-- it is the first of its line
abbrev pub IsFirstOn : Conn → Exchange → List Conn → Type 0
IsFirstOn k e ks = (j : Conn) → IsIn j ks → j.number ≡ k.number → first_of j.line ≡ Some e.number

module _ {tale : Tale} where
  -- a response is over
  done-fed : (k : Conn) (e : Exchange) (head : Response) (s : State) → IsFirstOn k e s.conns → Fed tale s → Fed tale (on_conn k.number (rested head) (end_exchange e.number s))
  unfolding on_conn end_exchange
  done-fed k e head s first hs = fed (record {
    apart = f.apart;
    rise = f.rise;
    given = f.given;
    one = f.one;
    headed = f.headed;
    sourced = f.sourced;
    begun = f.begun;
    fed_by = λ j x c q l i m is o hit off has. by j x c q (in_change (is_conn k.number) (rested head) j t.conns l) i m is o hit off has;
    answers = λ on j a n l is named. answers_by on j a n (in_change (is_conn k.number) (rested head) j t.conns l) is named;
    kept = f.kept;
  })
    where
      t : State
      t = record s { exchanges = filter (λ x. not (is_exchange e.number x)) s.exchanges; conns = map (without_ask e.number) s.conns }

      f : FactsOf tale t
      f = facts_of (end_exchange-fed e.number s hs)

      answers_by : tale.follows ≡ true → (j : Conn) (a : Answer) (n : ℕ) → Changed (is_conn k.number) (rested head) t.conns j → j.answer ≡ Some a → tale.firsts j.number ≡ Some n → Answers n t.exchanges s.next_exchange
      answers_by on j a n (same l isnt) is named = f.answers on j a n l is named
      answers_by on j a n (other g l it_is eq) is named = let both : None ≡ Some a = sym (ap (λ (y : Conn). y.answer) eq) ∙ is in absurd (cc both)

      -- none of those left was fed by it
      behind : (g : Conn) (x : Exchange) (c : Client) (q : Passed) → From (without_ask e.number) s.conns g → g.number ≡ k.number → IsIn x t.exchanges → IsIn x.number g.line → is_headed x ≡ true → IsIn c s.clients → is_for x c ≡ true → is_in_other c.stage ≡ false → passed_of c ≡ Some q → ⊥
      behind g x c q r number i m is o hit off has =
          let w = in_filter (λ y. not (is_exchange e.number y)) x s.exchanges i in
          let l = in_filter (λ n. not (n == e.number)) x.number r.was.line (subst (λ (y : Conn). IsIn x.number y.line) r.is m) in
          let v = (facts_of hs).fed_by r.was x c q r.there w.0 l.0 is o hit off has in
          let both : Some e.number ≡ Some x.number = sym (first r.was r.there (sym (ap conn_number r.is) ∙ number)) ∙ v.front in
          let eq : e.number ≡ x.number = cc in
          let off_it : not (x.number == e.number) ≡ false = ap not (ap (λ n. n == e.number) (sym eq) ∙ number_same e.number) in
          let clash : false ≡ true = sym off_it ∙ w.1 in cc clash

      by : (j : Conn) (x : Exchange) (c : Client) (q : Passed) → Changed (is_conn k.number) (rested head) t.conns j → IsIn x t.exchanges → IsIn x.number j.line → is_headed x ≡ true → IsIn c s.clients → is_for x c ≡ true → is_in_other c.stage ≡ false → passed_of c ≡ Some q → Feeds tale j x c q
      by j x c q (same l isnt) i m is o hit off has = f.fed_by j x c q l i m is o hit off has
      by j x c q (other g l it_is eq) i m is o hit off has =
          absurd (behind g x c q (in_map (without_ask e.number) g s.conns l) (same_number g.number k.number it_is) i (subst (λ (y : Conn). IsIn x.number y.line) eq m) is o hit off has)

-- ---- into the pipe

-- the same client, but for the pipe
pub record SamePoured (d c : Client) : Type 0 where
  pub number : d.number ≡ c.number
  pub index : d.index ≡ c.index
  pub stage : d.stage ≡ c.stage
  pub left : d.interim_left ≡ c.interim_left

abbrev pub into_pipe : (Pipe → Pipe) → Client → Client
into_pipe f c = on_passed (λ p. record p { pipe = f p.pipe }) c

poured_same : (f : Pipe → Pipe) (c : Client) → SamePoured (into_pipe f c) c
poured_same f c = by (passed_of c)
  where
    by : (o : Option Passed) → SamePoured (elim o as (λ x. Client) [ None ↦ c | Some p ↦ record c { brought = Passes (record p { pipe = f p.pipe }) } ]) c
    by None = record { number = refl; index = refl; stage = refl; left = refl }
    by (Some p) = record { number = refl; index = refl; stage = refl; left = refl }

poured_of : (f : Pipe → Pipe) (c : Client) (q : Passed) → passed_of (into_pipe f c) ≡ Some q → (p : Passed) × (passed_of c ≡ Some p) × (q ≡ record p { pipe = f p.pipe })
poured_of f c q is = by (passed_of c) refl is
  where
    by : (o : Option Passed) → passed_of c ≡ o → passed_of (elim o as (λ x. Client) [ None ↦ c | Some p ↦ record c { brought = Passes (record p { pipe = f p.pipe }) } ]) ≡ Some q → (p : Passed) × (passed_of c ≡ Some p) × (q ≡ record p { pipe = f p.pipe })
    by None has some = let both : None ≡ Some q = sym has ∙ some in absurd (cc both)
    by (Some p) has some = let eq : record p { pipe = f p.pipe } ≡ q = cc in (p, has, sym eq)

stands_first : (ns : List ℕ) (m : ℕ) → first_of ns ≡ Some m → IsIn m ns
stands_first [] m is = absurd (cc is)
stands_first (n ∷ ns) m is = let eq : n ≡ m = cc in inl (sym eq)

-- what goes into the pipe came
abbrev KeepsIn : Tale → Exchange → (Pipe → Pipe) → List Client → Type 0
KeepsIn tale e f cs = tale.follows ≡ true → (d : Client) (p : Passed) → IsIn d cs → is_for e d ≡ true → is_in_other d.stage ≡ false → passed_of d ≡ Some p → Keeps tale (into_pipe f d) (record p { pipe = f p.pipe })

keeps_amid : {tale : Tale} (n : ℕ) (c : Client) (p : Passed) → Keeps tale c p → Keeps (amid n tale) c p
keeps_amid n c p k = record { content = k.content; came = k.came; relays = k.relays }

stems_into : (e : Exchange) (f : Pipe → Pipe) (cs ds : List Client) → Stems cs ds → Stems cs (change (is_for e) (into_pipe f) ds)
stems_into e f cs ds stems d i = by (in_change (is_for e) (into_pipe f) d ds i)
  where
    by : Changed (is_for e) (into_pipe f) ds d → Stem cs d
    by (same j isnt) = stems d j
    by (other c j hit eq) =
        let w = stems c j in
        record { was = w.was; there = w.there; number = ap client_number eq ∙ (poured_same f c).number ∙ w.number; index = ap (λ (x : Client). x.index) eq ∙ (poured_same f c).index ∙ w.index }

-- of these data, with what goes into the pipe
keeps_by : {tale : Tale} (f : Pipe → Pipe) (is_whole : Bool) (a : Answer) (content : Bytes) (d : Client) (p : Passed) → p.head ≡ a.head → p.rule ≡ a.rule → (f p.pipe).is_finished ≡ is_whole → tale.came d.number d.index a.head a.rule content is_whole
    → Relays (tale.said (into_pipe f d).number) (into_pipe f d) (record p { pipe = f p.pipe }) content → Keeps tale (into_pipe f d) (record p { pipe = f p.pipe })
keeps_by {tale} f is_whole a content d p head rule fin came relays = record {
  content = content;
  came = subst (λ t. tale.came (into_pipe f d).number (into_pipe f d).index p.head p.rule content t) (sym fin)
      (subst (λ r. tale.came (into_pipe f d).number (into_pipe f d).index p.head r content is_whole) (sym rule)
      (subst (λ h. tale.came (into_pipe f d).number (into_pipe f d).index h a.rule content is_whole) (sym head)
      (subst (λ i. tale.came (into_pipe f d).number i a.head a.rule content is_whole) (sym (poured_same f d).index) (subst (λ n. tale.came n d.index a.head a.rule content is_whole) (sym (poured_same f d).number) came))));
  relays = relays;
}

relays_into : (tale : Tale) (fresh content : Bytes) (d : Client) (p : Passed) → p.pipe.is_finished ≡ false → Relays (tale.said d.number) d p content → Relays (tale.said (into_pipe (poured fresh) d).number) (into_pipe (poured fresh) d) (record p { pipe = poured fresh p.pipe }) (content ++ fresh)
relays_into tale fresh content d p going r =
    let so = poured_same (poured fresh) d in
    relays_poured (tale.said d.number) (tale.said (into_pipe (poured fresh) d).number) (into_pipe (poured fresh) d) d p content (ap tale.said so.number) so.stage so.left going r fresh

keeps_poured : {tale : Tale} (e : Exchange) (a : Answer) (content fresh : Bytes) (cs : List Client) → (tale.follows ≡ true → Flow tale e a content cs) → (tale.follows ≡ true → Comes tale e cs a.head a.rule (content ++ fresh) false) → KeepsIn tale e (poured fresh) cs
keeps_poured {tale} e a content fresh cs flow comes on d p i hit off has =
    let v = flow on d p i hit off has in
    keeps_by {tale = tale} (poured fresh) false a (content ++ fresh) d p v.head v.rule (poured_ends fresh p.pipe ∙ v.going) (comes on d i hit) (relays_into tale fresh content d p v.going v.relays)

keeps_finished : {tale : Tale} (e : Exchange) (a : Answer) (content : Bytes) (cs : List Client) → (tale.follows ≡ true → Flow tale e a content cs) → (tale.follows ≡ true → Comes tale e cs a.head a.rule content true) → KeepsIn tale e finished cs
keeps_finished {tale} e a content cs flow comes on d p i hit off has =
    let v = flow on d p i hit off has in
    let so = poured_same finished d in
    keeps_by {tale = tale} finished true a content d p v.head v.rule refl (comes on d i hit) (relays_finished (tale.said d.number) (tale.said (into_pipe finished d).number) (into_pipe finished d) d p content (ap tale.said so.number) so.stage so.left v.going v.relays)

-- the body goes on with one more piece in the pipe
flow_poured : {tale : Tale} (e : Exchange) (a : Answer) (content fresh : Bytes) (cs : List Client) → Flow tale e a content cs → Flow tale e a (content ++ fresh) (change (is_for e) (into_pipe (poured fresh)) cs)
flow_poured {tale} e a content fresh cs flow c q i hit off has = by (in_change (is_for e) (into_pipe (poured fresh)) c cs i)
  where
    at : (d : Client) → IsIn d cs → is_for e d ≡ true → c ≡ into_pipe (poured fresh) d → Flows tale a (content ++ fresh) c q
    at d j its eq =
        let stage : c.stage ≡ d.stage = ap (λ (z : Client). z.stage) eq ∙ (poured_same (poured fresh) d).stage in
        let w = poured_of (poured fresh) d q (sym (ap passed_of eq) ∙ has) in
        let v = flow d w.0 j its (sym (ap is_in_other stage) ∙ off) w.1 in
        record {
          head = ap (λ (y : Passed). y.head) w.2 ∙ v.head;
          rule = ap (λ (y : Passed). y.rule) w.2 ∙ v.rule;
          going = ap (λ (y : Passed). y.pipe.is_finished) w.2 ∙ poured_ends fresh w.0.pipe ∙ v.going;
          relays = subst (λ (z : Client). Relays (tale.said z.number) z q (content ++ fresh)) (sym eq) (subst (λ (y : Passed). Relays (tale.said (into_pipe (poured fresh) d).number) (into_pipe (poured fresh) d) y (content ++ fresh)) (sym w.2) (relays_into tale fresh content d w.0 v.going v.relays));
        }

    by : Changed (is_for e) (into_pipe (poured fresh)) cs c → Flows tale a (content ++ fresh) c q
    by (same j isnt) = let both : false ≡ true = sym isnt ∙ hit in absurd (cc both)
    by (other d j its eq) = at d j its eq

-- more of the response to this exchange, before it is noted of its connection
pour-amid : (tale : Tale) (e : Exchange) (f : Pipe → Pipe) (s : State) → Lone e s.exchanges → KeepsIn tale e f s.clients → Fed (amid e.number tale) s → Fed (amid e.number tale) (pour e f s)
unfolding pour on_client_of
pour-amid tale e f s lone keeps hs = fed (record {
  apart = rise_change client_number (is_for e) (into_pipe f) (λ c. (poured_same f c).number) s.clients h.apart;
  rise = h.rise;
  given = h.given;
  one = h.one;
  headed = h.headed;
  sourced = λ c id i on is. sourced_by c id (of c i) on is;
  begun = λ x c i j hit on. begun_by x c i (of c j) hit on;
  fed_by = λ k x c q l i m is j hit off has. fed_at k x c q l i m is (of c j) hit off has;
  answers = h.answers;
  kept = λ on c q j off has. kept_at on c q (of c j) off has;
})
  where
    h : FactsOf (amid e.number tale) s
    h = facts_of hs

    of : (c : Client) → IsIn c (change (is_for e) (into_pipe f) s.clients) → Changed (is_for e) (into_pipe f) s.clients c
    of c i = in_change (is_for e) (into_pipe f) c s.clients i

    stage_of : (c d : Client) → c ≡ into_pipe f d → c.stage ≡ d.stage
    stage_of c d eq = ap (λ (z : Client). z.stage) eq ∙ (poured_same f d).stage

    for_of : (x : Exchange) (c d : Client) → c ≡ into_pipe f d → is_for x c ≡ true → is_for x d ≡ true
    for_of x c d eq hit = ap (λ n. is_this n x.asker) (sym (ap client_number eq ∙ (poured_same f d).number)) ∙ hit

    sourced_by : (c : Client) (id : ℕ) → Changed (is_for e) (into_pipe f) s.clients c → is_in_passed c.stage ≡ true → source_in c.stage ≡ Some id → ⊥
    sourced_by c id (same i isnt) on is = h.sourced c id i on is
    sourced_by c id (other d i hit eq) on is = h.sourced d id i (sym (ap is_in_passed (stage_of c d eq)) ∙ on) (sym (ap source_in (stage_of c d eq)) ∙ is)

    begun_by : (x : Exchange) (c : Client) → IsIn x s.exchanges → Changed (is_for e) (into_pipe f) s.clients c → is_for x c ≡ true → is_in_passed c.stage ≡ true → is_headed x ≡ true
    begun_by x c i (same j isnt) hit on = h.begun x c i j hit on
    begun_by x c i (other d j its eq) hit on = h.begun x d i j (for_of x c d eq hit) (sym (ap is_in_passed (stage_of c d eq)) ∙ on)

    fed_at : (k : Conn) (x : Exchange) (c : Client) (q : Passed) → IsIn k s.conns → IsIn x s.exchanges → IsIn x.number k.line → is_headed x ≡ true → Changed (is_for e) (into_pipe f) s.clients c → is_for x c ≡ true → is_in_other c.stage ≡ false → passed_of c ≡ Some q → Feeds (amid e.number tale) k x c q
    fed_at k x c q l i m is (same j isnt) hit off has = h.fed_by k x c q l i m is j hit off has
    fed_at k x c q l i m is (other d j its eq) hit off has =
        let w = poured_of f d q (sym (ap passed_of eq) ∙ has) in
        let its_too = for_of x c d eq hit in
        let v = h.fed_by k x d w.0 l i m is j its_too (sym (ap is_in_other (stage_of c d eq)) ∙ off) w.1 in
        record {
          front = v.front;
          answer = v.answer;
          is = v.is;
          head = ap (λ (y : Passed). y.head) w.2 ∙ v.head;
          rule = ap (λ (y : Passed). y.rule) w.2 ∙ v.rule;
          relayed = λ isnt. absurd (isnt (ap (λ n. Some n) (sym (lone x d i its_too its))));
          going = λ isnt. absurd (isnt (ap (λ n. Some n) (sym (lone x d i its_too its))));
        }

    kept_at : tale.follows ≡ true → (c : Client) (q : Passed) → Changed (is_for e) (into_pipe f) s.clients c → is_in_other c.stage ≡ false → passed_of c ≡ Some q → Keeps (amid e.number tale) c q
    kept_at on c q (same j isnt) off has = h.kept on c q j off has
    kept_at on c q (other d j its eq) off has =
        let w = poured_of f d q (sym (ap passed_of eq) ∙ has) in
        let k = keeps on d w.0 j its (sym (ap is_in_other (stage_of c d eq)) ∙ off) w.1 in
        subst (λ (z : Client). Keeps (amid e.number tale) z q) (sym eq) (subst (λ (y : Passed). Keeps (amid e.number tale) (into_pipe f d) y) (sym w.2) (keeps_amid e.number (into_pipe f d) (record w.0 { pipe = f w.0.pipe }) k))

pour-over : (tale : Tale) {ground : Ground} (e : Exchange) (f : Pipe → Pipe) (s : State) → Lone e s.exchanges → KeepsIn tale e f s.clients → Over (amid e.number tale) ground s → Over (amid e.number tale) ground (pour e f s)
unfolding pour on_client_of
pour-over tale e f s lone keeps (over h conns from) = over (pour-amid tale e f s lone keeps h) conns from

module _ {tale : Tale} where
  -- where nothing is noted apart
  pour-begins : {ground : Ground} (e : Exchange) (f : Pipe → Pipe) (s : State) → Lone e s.exchanges → KeepsIn tale e f s.clients → tale.but ≡ None → Over tale ground s → Over (amid e.number tale) ground (pour e f s)
  pour-begins e f s lone keeps calm (over h conns from) = pour-over tale e f s lone keeps (over (weaker e.number s calm h) conns from)
  -- ---- an exchange that is over

filtered_out : (n : ℕ) (x : Exchange) (xs : List Exchange) → IsIn x (filter (λ y. not (is_exchange n y)) xs) → x.number ≡ n → ⊥
filtered_out n x xs i number =
    let off_it : not (x.number == n) ≡ false = ap not (ap (λ m. m == n) number ∙ number_same n) in
    let both : false ≡ true = sym off_it ∙ (in_filter (λ y. not (is_exchange n y)) x xs i).1 in cc both

module _ {tale : Tale} where
  end_exchange-over : (n : ℕ) (s : State) → Fed (amid n tale) s → Fed tale (end_exchange n s)
  unfolding end_exchange
  end_exchange-over n s h = over_amid n _ (λ x i number. filtered_out n x s.exchanges i number) (end_exchange-fed n s h)

  rested-over : (k : Conn) (e : Exchange) (head : Response) (s : State) → IsFirstOn k e s.conns → Fed (amid e.number tale) s → Fed tale (on_conn k.number (rested head) (end_exchange e.number s))
  unfolding on_conn end_exchange
  rested-over k e head s first h = over_amid e.number _ (λ x i number. filtered_out e.number x s.exchanges i number) (done-fed k e head s first h)

  finish-fed : (k : Conn) (e : Exchange) (a : Answer) (s : State) → IsFirstOn k e s.conns → Lone e s.exchanges → KeepsIn tale e finished s.clients → Fed (amid e.number tale) s → Fed tale (finish k e a s)
  unfolding finish
  finish-fed k e a s first lone keeps h = when (may_go_on e a.head) done (close_this-fed k.number _ done)
    where
      ground : Ground
      ground = record { conns = s.conns; exchanges = s.exchanges; next = s.next_exchange }

      skipped : Over (amid e.number tale) ground (skip_body e (pour e finished s))
      skipped = skip_body-over e _ (pour-over tale e finished s lone keeps (over h (refl, refl) (descend_self s.exchanges)))

      done : Fed tale (on_conn k.number (rested a.head) (end_exchange e.number (skip_body e (pour e finished s))))
      done = rested-over k e a.head (skip_body e (pour e finished s)) (λ j i. first j (subst (λ ks. IsIn j ks) (over_conns skipped) i)) (over_fed skipped)

-- none of that number is there
absent : (n : ℕ) (xs : List Exchange) (x : Exchange) → find (is_exchange n) xs ≡ None → IsIn x xs → x.number ≡ n → ⊥
absent n [] x none i number = i
absent n (y ∷ ys) x none i number = by (is_exchange n y) refl none i (λ rest j. absent n ys x rest j number)
  where
    by : (t : Bool) → is_exchange n y ≡ t → cond t (Some y) (find (is_exchange n) ys) ≡ None → (x ≡ y) ⊎ IsIn x ys → (find (is_exchange n) ys ≡ None → IsIn x ys → ⊥) → ⊥
    by true is rest j more = cc rest
    by false is rest (inl eq) more = let both : true ≡ false = sym (number_same n) ∙ ap (λ m. m == n) (sym (sym (ap exchange_number eq) ∙ number)) ∙ is in cc both
    by false is rest (inr j) more = more rest j

first_absent : (n : ℕ) (k : Conn) (s : State) → first_of k.line ≡ Some n → front_of_line s k ≡ None → (x : Exchange) → IsIn x s.exchanges → x.number ≡ n → ⊥
first_absent n k s first none x i number = by k.line first none
  where
    by : (line : List ℕ) → first_of line ≡ Some n → (elim line as (λ y. Option Exchange) [ [] ↦ None | m ∷ ms ↦ exchange s m ]) ≡ None → ⊥
    by [] is gone = cc is
    by (m ∷ ms) is gone = let eq : m ≡ n = cc in absent m s.exchanges x gone i (number ∙ sym eq)

module _ {tale : Tale} where
  bad_response-amid : (n : ℕ) (k : Conn) (s : State) → first_of k.line ≡ Some n → Fed (amid n tale) s → Fed tale (bad_response k s)
  unfolding bad_response
  bad_response-amid n k s first h =
      each_so (front_of_line s k) (λ none. close_conn-fed false k s (over_amid n s (first_absent n k s first none) h))
      (λ e front. close_conn-fed false k _ (end_exchange-over e.number _ (fail-fed e s (subst (λ m. Fed (amid m tale) s) (same_first e front) h))))
    where
      same_first : (e : Exchange) → front_of_line s k ≡ Some e → n ≡ e.number
      same_first e front = let both : Some n ≡ Some e.number = sym first ∙ (front_by s k.line e front).1 in cc both

module _ {tale : Tale} where
  bad_response-fed : (k : Conn) (s : State) → Fed tale s → Fed tale (bad_response k s)
  unfolding bad_response
  bad_response-fed k s h = each_of (front_of_line s k) (close_conn-fed false k s h) (λ e. close_conn-fed false k _ (end_exchange-fed e.number _ (fail-fed e s h)))

  bad_head-fed : (k : Conn) (s : State) → Fed tale s → Fed tale (bad_head k s)
  unfolding bad_head
  bad_head-fed k s h = when k.has_brought (each_of (front_of_line s k) (close_conn-fed false k s h) (λ e. close_conn-fed false k _ (lose_attempt-fed e s h))) (bad_response-fed k s h)
  -- ---- heads

begun_cases : (c : Client) → is_begun c ≡ true → is_in_other c.stage ≡ false → is_in_passed c.stage ≡ true
begun_cases c on off = by c.stage on off
  where
    of_reply : (b d : Bool) → b ≡ true → (b && not d) ≡ false → (b && d) ≡ true
    of_reply true true on isnt = refl
    of_reply true false on isnt = absurd (cc isnt)
    of_reply false d on isnt = absurd (cc on)

    by : (stage : Stage) → is_some_with (λ r. r.has_begun) (elim stage as (λ y. Option Reply) [ Undecided ↦ None | Waiting ↦ None | Passing ↦ None | Answering r ↦ Some r ]) ≡ true → is_in_other stage ≡ false → is_in_passed stage ≡ true
    by Undecided begun isnt = absurd (cc begun)
    by Waiting begun isnt = absurd (cc begun)
    by Passing begun isnt = absurd (cc begun)
    by (Answering r) begun isnt = of_reply r.has_begun (is_passing r.decision) begun isnt

none_begun : (b : Bool) → (b ≡ true → ⊥) → b ≡ false
none_begun true isnt = absurd (isnt refl)
none_begun false isnt = refl

-- the body ends within its text
abbrev pub IsDone : Outcome → Type 0
IsDone o = (rest : Bytes) × (o ≡ Done rest)

-- what is read next on a connection comes to the clients of its first exchange: the head of a response, or more of its body
pub record Hears (tale : Tale) (k : Conn) (bytes : Bytes) (s : State) : Type 0 where
  pub named : tale.firsts k.number ≡ first_of k.line
  pub begins : (e : Exchange) (head : Response) (rule : BodyRule) → k.answer ≡ None → front_of_line s k ≡ Some e → response_at (k.unread ++ bytes) ≡ Whole head → is_interim head.status ≡ false → rule_of (asks_head e) head.status head.fields ≡ Ok rule
      → (is_whole : Bool) → (is_whole ≡ true → IsDone (body_of rule []).outcome) → Comes tale e s.clients head rule [] is_whole
  pub goes : (e : Exchange) (a : Answer) → k.answer ≡ Some a → front_of_line s k ≡ Some e → (is_whole : Bool) → (is_whole ≡ true → IsDone (body_of a.rule (a.raw ++ bytes)).outcome) → Comes tale e s.clients a.head a.rule (body_of a.rule (a.raw ++ bytes)).payload is_whole

-- whatever rows are there
hears_on : {tale : Tale} (k : Conn) (bytes : Bytes) (s t : State) → PartsOf s t → Hears tale k bytes s → Hears tale k bytes t
hears_on {tale} k bytes s t alike hears = record {
  named = hears.named;
  begins = λ e head rule no_answer first whole final ruled is_whole ends. subst (λ cs. Comes tale e cs head rule [] is_whole) (sym alike.clients_same) (hears.begins e head rule no_answer (before e first) whole final ruled is_whole ends);
  goes = λ e a has first is_whole ends. subst (λ cs. Comes tale e cs a.head a.rule (body_of a.rule (a.raw ++ bytes)).payload is_whole) (sym alike.clients_same) (hears.goes e a has (before e first) is_whole ends);
}
  where
    before : (e : Exchange) → front_of_line t k ≡ Some e → front_of_line s k ≡ Some e
    before e first = sym (same_front {s = s} {t = t} k (record { conns = alike.conns_same; exchanges = alike.exchanges_same })) ∙ first

-- or the end of the connection, with which a body ends
pub record EndsWell (tale : Tale) (k : Conn) (s : State) : Type 0 where
  pub named : (a : Answer) → k.answer ≡ Some a → tale.firsts k.number ≡ first_of k.line
  pub ends : (e : Exchange) (a : Answer) → k.answer ≡ Some a → front_of_line s k ≡ Some e → is_whole_at_end a ≡ true → Comes tale e s.clients a.head a.rule (payload_of a) true

pub stems_quiet : (o s : State) → Quietly o s → Stems o.clients s.clients
stems_quiet o s q d i = let f = (quiet_facts q).clients_from d i in record { was = f.was; there = f.there; number = f.is.number; index = f.is.index }

-- nobody's response comes there
abbrev unnamed : ℕ → Tale → Tale
unnamed n tale = record tale { firsts = λ m. elim (m == n) [ true ↦ None | false ↦ tale.firsts m ] }

unnamed_here : (n : ℕ) (tale : Tale) → (unnamed n tale).firsts n ≡ None
unnamed_here n tale = ap (λ t. elim t as (λ c. Option ℕ) [ true ↦ None | false ↦ tale.firsts n ]) (number_same n)

unnamed_away : (n m : ℕ) (tale : Tale) → (m == n) ≡ false → (unnamed n tale).firsts m ≡ tale.firsts m
unnamed_away n m tale isnt = ap (λ t. elim t as (λ c. Option ℕ) [ true ↦ None | false ↦ tale.firsts m ]) isnt

module _ {tale : Tale} where
  -- one that has no answer
  unnamed-fed : (n : ℕ) (s : State) → Fed tale s → Fed (unnamed n tale) s
  unnamed-fed n s h = fed (facts_across s s grows answers f.apart f.rise refl (λ d i. record { was = d; there = i; is = parts_across d d refl refl refl refl refl refl }) (itself_exchange s) (itself_conn s) f)
    where
      f : FactsOf tale s
      f = facts_of h

      grows : Grows tale (unnamed n tale)
      grows = record { but = λ m isnt. isnt; follows = λ is. is; came = λ m i head rule content is_whole c. c }

      answers : AreAnswered (unnamed n tale) s.exchanges s.conns s.next_exchange
      answers on k a m i is named = by (k.number == n) refl
        where
          by : (t : Bool) → (k.number == n) ≡ t → Answers m s.exchanges s.next_exchange
          by true hit = let both : None ≡ Some m = sym (ap (λ t. elim t as (λ c. Option ℕ) [ true ↦ None | false ↦ tale.firsts k.number ]) hit) ∙ named in absurd (cc both)
          by false isnt = f.answers on k a m i is (sym (unnamed_away n k.number tale isnt) ∙ named)

  -- its exchange has its head
  named-fed : (k : Conn) (e : Exchange) (s : State) → (tale.follows ≡ true → tale.firsts k.number ≡ Some e.number) → e.number < s.next_exchange → ((x : Exchange) → IsIn x s.exchanges → x.number ≡ e.number → is_headed x ≡ true) → Fed (unnamed k.number tale) s → Fed tale s
  named-fed k e s first below headed h = fed (facts_across s s grows answers f.apart f.rise refl (λ d i. record { was = d; there = i; is = parts_across d d refl refl refl refl refl refl }) (itself_exchange s) (itself_conn s) f)
    where
      f : FactsOf (unnamed k.number tale) s
      f = facts_of h

      grows : Grows (unnamed k.number tale) tale
      grows = record { but = λ m isnt. isnt; follows = λ is. is; came = λ m i head rule content is_whole c. c }

      answers : AreAnswered tale s.exchanges s.conns s.next_exchange
      answers on j a m i is named = by (j.number == k.number) refl
        where
          by : (t : Bool) → (j.number == k.number) ≡ t → Answers m s.exchanges s.next_exchange
          by true hit =
              let both : Some m ≡ Some e.number = sym named ∙ ap tale.firsts (same_number j.number k.number hit) ∙ first on in
              let eq : m ≡ e.number = cc in
              record { below = subst (λ n. n < s.next_exchange) (sym eq) below; headed = λ x l number. headed x l (number ∙ eq) }
          by false isnt = f.answers on j a m i is (unnamed_away k.number j.number tale isnt ∙ named)

module _ {tale : Tale} where
  module _ {b : Since} (k : Conn) (e : Exchange) (a : Answer) (s : State) (there : IsIn k s.conns) (no_answer : k.answer ≡ None) (front : front_of_line s k ≡ Some e) (hs : Sound b s) (h : Fed tale s) where
    given : IsIn e s.exchanges × (first_of k.line ≡ Some e.number)
    given = front_by s k.line e front

    in_line : IsIn e.number k.line
    in_line = by k.line given.1
      where
        by : (ns : List ℕ) → first_of ns ≡ Some e.number → IsIn e.number ns
        by [] is = absurd (cc is)
        by (n ∷ ns) is = let eq : n ≡ e.number = cc in inl (sym eq)

    place : e.place ≡ Some k.number
    place = (sound_facts hs).placed k e there given.0 in_line

    it : (j : Conn) → IsIn j s.conns → j.number ≡ k.number → j ≡ k
    it j i number = one_of conn_number s.conns j k (sound_facts hs).lines.rise i there number

    nobody : (j : Conn) (n : ℕ) (x : Answer) → IsIn j s.conns → j.number ≡ k.number → j.answer ≡ Some x → ⊥
    nobody j n x i number is = let both : None ≡ Some x = sym no_answer ∙ sym (ap (λ (y : Conn). y.answer) (it j i number)) ∙ is in cc both

    answered : tale.firsts k.number ≡ None → Fed tale (on_conn k.number (answered_by a) s)
    unfolding on_conn
    answered off =
        fed (facts_across s (record s { conns = change (is_conn k.number) (answered_by a) s.conns }) grows_not (λ on j x n i is named. answers j x n (in_change (is_conn k.number) (answered_by a) j s.conns i) is named on) (facts_of h).apart (facts_of h).rise refl (itself_client s) (itself_exchange s)
        (λ j i. by j (in_change (is_conn k.number) (answered_by a) j s.conns i)) (facts_of h))
      where
        answers : (j : Conn) (x : Answer) (n : ℕ) → Changed (is_conn k.number) (answered_by a) s.conns j → j.answer ≡ Some x → tale.firsts j.number ≡ Some n → tale.follows ≡ true → Answers n s.exchanges s.next_exchange
        answers j x n (same i isnt) is named on = (facts_of h).answers on j x n i is named
        answers j x n (other g i hit eq) is named on =
            let number : j.number ≡ k.number = ap conn_number eq ∙ same_number g.number k.number hit in
            let both : None ≡ Some n = sym off ∙ sym (ap tale.firsts number) ∙ named in absurd (cc both)

        by : (j : Conn) → Changed (is_conn k.number) (answered_by a) s.conns j → FromConn s.conns j
        by j (same i isnt) = itself_conn s j i
        by j (other g i hit eq) = record {
          was = g;
          there = i;
          line = λ n l. subst (λ (y : Conn). IsIn n y.line) eq l;
          front = λ n l is. ap (λ (y : Conn). first_of y.line) eq ∙ is;
          answer = λ n x l is. absurd (nobody g n x i (same_number g.number k.number hit) is);
        }

    comes : payload_of a ≡ [] → (tale.follows ≡ true → Comes tale e s.clients a.head a.rule [] false) → Coming tale e a (on_conn k.number (answered_by a) s)
    unfolding on_conn
    comes nothing come = coming (record {
      nothing = nothing;
      comes = come;
      there = given.0;
      placed = λ none. let both : Some k.number ≡ None = sym place ∙ none in cc both;
      line = λ j i l. line_by j (in_change (is_conn k.number) (answered_by a) j s.conns i) l;
      waits = λ c p i hit off has. none_begun (is_begun c) (λ on. waits_by c p i hit off has on);
    })
      where
        line_by : (j : Conn) → Changed (is_conn k.number) (answered_by a) s.conns j → IsIn e.number j.line → (first_of j.line ≡ Some e.number) × (j.answer ≡ Some a)
        line_by j (same i isnt) l =
            let both : Some j.number ≡ Some k.number = sym ((sound_facts hs).placed j e i given.0 l) ∙ place in
            let eq : j.number ≡ k.number = cc in
            let clash : false ≡ true = sym isnt ∙ ap (λ n. n == k.number) eq ∙ number_same k.number in absurd (cc clash)
        line_by j (other g i hit eq) l =
            (ap (λ (y : Conn). first_of y.line) eq ∙ ap (λ (y : Conn). first_of y.line) (it g i (same_number g.number k.number hit)) ∙ given.1, ap (λ (y : Conn). y.answer) eq)

        waits_by : (c : Client) (p : Passed) → IsIn c s.clients → is_for e c ≡ true → is_in_other c.stage ≡ false → passed_of c ≡ Some p → is_begun c ≡ true → ⊥
        waits_by c p i hit off has on =
            let headed = (facts_of h).begun e c given.0 i hit (begun_cases c on off) in
            let v = (facts_of h).fed_by k e c p there given.0 in_line headed i hit off has in
            nobody k e.number v.answer there refl v.is

    first_on : IsFirstOn k e (on_conn k.number (answered_by a) s).conns
    unfolding on_conn
    first_on j i number = by (in_change (is_conn k.number) (answered_by a) j s.conns i)
      where
        by : Changed (is_conn k.number) (answered_by a) s.conns j → first_of j.line ≡ Some e.number
        by (same l isnt) = ap (λ (y : Conn). first_of y.line) (it j l number) ∙ given.1
        by (other g l hit eq) = ap (λ (y : Conn). first_of y.line) eq ∙ ap (λ (y : Conn). first_of y.line) (it g l (same_number g.number k.number hit)) ∙ given.1

module _ {tale : Tale} where
  outcome_so : (o : Outcome) {x : Bytes → State} {y z : State} → ((rest : Bytes) → o ≡ Done rest → Fed tale (x rest)) → Fed tale y → Fed tale z → Fed tale (elim o as (λ c. State) [ Done rest ↦ x rest | Going ↦ y | Bad ↦ z ])
  outcome_so (Done rest) hx hy hz = hx rest refl
  outcome_so Going hx hy hz = hy
  outcome_so Bad hx hy hz = hz

  begin_answer-fed : {b : Since} (k : Conn) (e : Exchange) (head : Response) (rule : BodyRule) (bytes : Bytes) (s : State) → tale.but ≡ None → IsIn k s.conns → k.answer ≡ None → front_of_line s k ≡ Some e → response_at (k.unread ++ bytes) ≡ Whole head → is_interim head.status ≡ false
      → rule_of (asks_head e) head.status head.fields ≡ Ok rule → (tale.follows ≡ true → Hears tale k bytes s) → Sound b s → Fed tale s → Fed tale (begin_answer k e head rule s)
  unfolding begin_answer end_if_empty on_conn
  begin_answer-fed k e head rule bytes s calm there no_answer front whole final ruled hears hs h =
      outcome_so (body_of rule []).outcome
      (λ rest is. finish-fed {tale = tale} k e a u first lone (keeps_finished {tale = tale} e a [] u.clients flow (λ on. comes_from tale e s.clients u.clients head rule [] true stems ((hears on).begins e head rule no_answer front whole final ruled true (λ so. (rest, is))))) (weaker e.number u calm named)) named named
    where
      a : Answer
      a = answer_with e head rule

      t : State
      t = record s { conns = change (is_conn k.number) (answered_by (answer_with e head rule)) s.conns }

      ground : Ground
      ground = record { conns = change (is_conn k.number) (answered_by (answer_with e head rule)) s.conns; exchanges = s.exchanges; next = s.next_exchange }

      u : State
      u = by_aim e head rule (record s { conns = change (is_conn k.number) (answered_by (answer_with e head rule)) s.conns })

      its : IsIn e s.exchanges × (first_of k.line ≡ Some e.number)
      its = front_by s k.line e front

      -- while nobody's response comes there
      apart : Tale
      apart = unnamed k.number tale

      h_apart : Fed apart s
      h_apart = unnamed-fed k.number s h

      coming_now : Coming apart e a t
      coming_now = comes {tale = apart} k e a s there no_answer front hs h_apart (payload-nothing rule) (λ on. (hears on).begins e head rule no_answer front whole final ruled false (λ is. absurd (cc is)))

      now : Over apart ground u
      now = by_aim-over e head rule t coming_now (over (answered {tale = apart} k e a s there no_answer front hs h_apart (unnamed_here k.number tale)) (refl, refl) (descend_self s.exchanges))

      told_now : Told apart e a u
      told_now = by_aim-told e head rule t coming_now

      named : Fed tale u
      named = named-fed k e u (λ on. (hears on).named ∙ its.1) (subst (λ n. e.number < n) (sym (over_next now)) ((facts_of h).given e its.0)) (told_headed told_now) (over_fed now)

      flow : tale.follows ≡ true → Flow tale e a [] u.clients
      flow on d p i hit off has = let v = told_flow told_now d p i hit off has in record { head = v.head; rule = v.rule; going = v.going; relays = v.relays }

      stems : Stems s.clients u.clients
      stems = stems_quiet s u (by_aim-quiet e head rule t (quietly (quiet_facts (quiet_same s))))

      first : IsFirstOn k e u.conns
      first j i number = first_on k e a s there no_answer front hs h j (subst (λ ks. IsIn j ks) (over_conns now) i) number

      lone : Lone e u.exchanges
      lone = lone_by e s u.exchanges its.0 (over_from now) h

  answer_for-fed : {b : Since} (k : Conn) (e : Exchange) (head : Response) (bytes : Bytes) (s : State) → tale.but ≡ None → IsIn k s.conns → k.answer ≡ None → front_of_line s k ≡ Some e → response_at (k.unread ++ bytes) ≡ Whole head → is_interim head.status ≡ false → (tale.follows ≡ true → Hears tale k bytes s)
      → Sound b s → Fed tale s → Fed tale (answer_for k e head s)
  unfolding answer_for
  answer_for-fed k e head bytes s calm there no_answer front whole final hears hs h = when (is_wrong_head e head) (bad_head-fed k s h) (by (rule_of (asks_head e) head.status head.fields) refl)
    where
      by : (r : Result BodyRule ResponseFault) → rule_of (asks_head e) head.status head.fields ≡ r → Fed tale (elim r as (λ c. State) [ Ok rule ↦ begin_answer k e head rule s | Err fault ↦ bad_head k s ])
      by (Ok rule) ruled = begin_answer-fed k e head rule bytes s calm there no_answer front whole final ruled hears hs h
      by (Err fault) ruled = bad_head-fed k s h

  head_came-fed : {b : Since} (k : Conn) (head : Response) (bytes : Bytes) (s : State) → tale.but ≡ None → IsIn k s.conns → k.answer ≡ None → response_at (k.unread ++ bytes) ≡ Whole head → is_interim head.status ≡ false → (tale.follows ≡ true → Hears tale k bytes s) → Sound b s → Fed tale s → Fed tale (head_came k head s)
  unfolding head_came
  head_came-fed k head bytes s calm there no_answer whole final hears hs h = each_so (front_of_line s k) (λ none. close_conn-fed false k s h)
      (λ e front.
      let u = bring_row-untouched e head s in
      let first = same_front k u ∙ front in
      answer_for-fed k e head bytes _ calm (subst (λ ks. IsIn k ks) (sym u.conns) there) no_answer first whole final (λ on. hears_on k bytes s _ (parts_of (bring_row-same e head s (itself s))) (hears on)) (bring_row-sound e head s hs) (still (bring_row-same e head s (itself s)) h))

  -- ---- bytes

  piece_when : (t : Bool) (p q : Piece) → Fed tale p.state → Fed tale q.state → Fed tale (elim t as (λ c. Piece) [ true ↦ p | false ↦ q ]).state
  piece_when true p q hp hq = hp
  piece_when false p q hp hq = hq

  with_unread-fed : (k : Conn) (bytes : Bytes) (s : State) → Fed tale s → Fed tale (on_conn k.number (with_unread bytes) s)
  with_unread-fed k bytes s h = on_conn-fed k.number (with_unread bytes) s (λ j. record { number = refl; line = refl; answer = refl }) h

  head_piece_by : {b : Since} (k : Conn) (bytes : Bytes) (s : State) (read : Read Response) → response_at (k.unread ++ bytes) ≡ read → tale.but ≡ None → IsIn k s.conns → k.answer ≡ None → (tale.follows ≡ true → Hears tale k bytes s) → Sound b s → Fed tale s
      → Fed tale (elim read as (λ c. Piece) [
        | More ↦ record { state = on_conn k.number (with_unread (k.unread ++ bytes)) s; rest = [] }
        | TooLong ↦ record { state = bad_head k s; rest = [] }
        | NoHead ↦ record { state = bad_head k s; rest = [] }
        | Whole head ↦ elim (is_interim head.status) as (λ c. Piece) [
          | true ↦ record { state = on_conn k.number (with_unread []) s; rest = drop head.length (k.unread ++ bytes) }
          | false ↦ record { state = head_came k head s; rest = drop head.length (k.unread ++ bytes) }
        ]
      ]).state
  head_piece_by k bytes s More is calm there no_answer hears hs h = with_unread-fed k (k.unread ++ bytes) s h
  head_piece_by k bytes s TooLong is calm there no_answer hears hs h = bad_head-fed k s h
  head_piece_by k bytes s NoHead is calm there no_answer hears hs h = bad_head-fed k s h
  head_piece_by k bytes s (Whole head) is calm there no_answer hears hs h = by (is_interim head.status) refl
    where
      by : (t : Bool) → is_interim head.status ≡ t → Fed tale (elim t as (λ c. Piece) [
        | true ↦ record { state = on_conn k.number (with_unread []) s; rest = drop head.length (k.unread ++ bytes) }
        | false ↦ record { state = head_came k head s; rest = drop head.length (k.unread ++ bytes) }
      ]).state
      by true interim = with_unread-fed k [] s h
      by false final = head_came-fed k head bytes s calm there no_answer is final hears hs h

  head_piece-fed : {b : Since} (k : Conn) (bytes : Bytes) (s : State) → tale.but ≡ None → IsIn k s.conns → k.answer ≡ None → (tale.follows ≡ true → Hears tale k bytes s) → Sound b s → Fed tale s → Fed tale (head_piece k bytes s).state
  head_piece-fed k bytes s calm there no_answer hears hs h = piece_when (is_early s k) _ _ (close_conn-fed true k s h) (head_piece_by k bytes s (response_at (k.unread ++ bytes)) refl calm there no_answer hears hs h)

moved_same : (n : ℕ) (e : Exchange) → SameExchange (moved_on n e) e
moved_same n e = by e.body refl
  where
    by : (body : Body) → e.body ≡ body → SameExchange (elim (bound_in body) as (λ y. Exchange) [ None ↦ e | Some to ↦ record e { body = Joining (record to { next = to.next + n }) } ]) e
    by Pending is = exchange_same e
    by (Joining to) is = record { number = refl; asker = λ m has. has; headed = sym (ap (λ x. not (is_pending x)) is); place = λ on none. none }
    by Relaying is = exchange_same e
    by Dropping is = exchange_same e

readied_clients : (e : Exchange) (a : Answer) (at : ℕ) (bytes : Bytes) (s : State) → (join_bound e bytes (note_sent e a at bytes s)).clients ≡ s.clients
unfolding join_bound on_exchange
readied_clients e a at bytes s = by (bound_of e) ∙ (parts_of (note_sent-same e a at bytes s (itself s))).clients_same
  where
    by : (o : Option Bound) → (elim o as (λ c. State) [ None ↦ note_sent e a at bytes s | Some to ↦ record (join to bytes (note_sent e a at bytes s)) { exchanges = change (is_exchange e.number) (moved_on (length bytes)) (join to bytes (note_sent e a at bytes s)).exchanges } ]).clients ≡ (note_sent e a at bytes s).clients
    by None = refl
    by (Some to) = (parts_of (join-same to bytes (note_sent e a at bytes s) (itself (note_sent e a at bytes s)))).clients_same

module _ {tale : Tale} where
  join_bound-over : {ground : Ground} (e : Exchange) (bytes : Bytes) (s : State) → Over tale ground s → Over tale ground (join_bound e bytes s)
  unfolding join_bound on_exchange
  join_bound-over {ground} e bytes s h = over_each (bound_of e) h (λ to. moved to (over_same (join-same to bytes s (itself s)) h))
    where
      moved : (to : Bound) → Over tale ground (join to bytes s) → Over tale ground (record (join to bytes s) { exchanges = change (is_exchange e.number) (moved_on (length bytes)) (join to bytes s).exchanges })
      moved to (over g conns from) =
          over (fed (exchanges_changed (join to bytes s) (is_exchange e.number) (moved_on (length bytes)) (λ x i hit. moved_same (length bytes) x) (λ x. (moved_same (length bytes) x).number) (facts_of g))) conns
          (descend_changed ground.exchanges (join to bytes s).exchanges (is_exchange e.number) (moved_on (length bytes)) (λ x. (moved_same (length bytes) x).number) (λ x n is. (moved_same (length bytes) x).asker n is) from)

  -- its bytes are on record, and joined
  readied-over : {ground : Ground} (e : Exchange) (a : Answer) (at : ℕ) (bytes : Bytes) (s : State) → Over tale ground s → Over tale ground (join_bound e bytes (note_sent e a at bytes s))
  readied-over e a at bytes s h = join_bound-over e bytes _ (over_same (note_sent-same e a at bytes s (itself s)) h)

  deliver-over : {ground : Ground} (e : Exchange) (a : Answer) (at : ℕ) (bytes : Bytes) (s : State) → Lone e (join_bound e bytes (note_sent e a at bytes s)).exchanges → KeepsIn tale e (poured bytes) (join_bound e bytes (note_sent e a at bytes s)).clients → tale.but ≡ None → Over tale ground s → Over (amid e.number tale) ground (deliver e a at bytes s)
  unfolding deliver
  deliver-over e a at bytes s lone keeps calm h = pour-begins {tale = tale} e (poured bytes) _ lone keeps calm (readied-over e a at bytes s h)

  -- more of the same answer: these data went into the pipe
  module _ {b : Since} (k : Conn) (a : Answer) (more fresh : Bytes) (e : Exchange) (s t : State) (there : IsIn k s.conns) (has : k.answer ≡ Some a) (hs : Sound b s) (its : IsIn e s.exchanges) (first : first_of k.line ≡ Some e.number) (in_it : IsIn e.number k.line)
      (rise : AreRising (map exchange_number s.exchanges)) (grown : (body_of a.rule more).payload ≡ payload_of a ++ fresh) (lone : Lone e t.exchanges) (conns : t.conns ≡ s.conns) (from : Descend s.exchanges t.exchanges) (keeps : KeepsIn tale e (poured fresh) t.clients) (ht : Fed tale t) where
    h : FactsOf tale t
    h = facts_of ht

    abbrev longer : Answer
    longer = record a { raw = more }

    abbrev to : Conn → Conn
    to i = record i { answer = Some longer }

    one_conn : (g : Conn) → IsIn g t.conns → is_conn k.number g ≡ true → g ≡ k
    one_conn g i hit = one_of conn_number s.conns g k (sound_facts hs).lines.rise (subst (λ ks. IsIn g ks) conns i) there (same_number g.number k.number hit)

    -- it stands in no other line
    elsewhere : (j : Conn) (x : Exchange) → IsIn j t.conns → is_conn k.number j ≡ false → x.number ≡ e.number → IsIn x.number j.line → ⊥
    elsewhere j x l isnt number m =
        let here = (sound_facts hs).placed k e there its in_it in
        let there_too = (sound_facts hs).placed j e (subst (λ ks. IsIn j ks) conns l) its (subst (λ n. IsIn n j.line) number m) in
        let both : Some j.number ≡ Some k.number = sym there_too ∙ here in
        let eq : j.number ≡ k.number = cc in
        let clash : false ≡ true = sym isnt ∙ ap (λ n. n == k.number) eq ∙ number_same k.number in cc clash

    -- an exchange of that number with an asker is it
    for_it : (x : Exchange) (c : Client) → IsIn x t.exchanges → x.number ≡ e.number → is_for x c ≡ true → is_for e c ≡ true
    for_it x c i number hit =
        let w = from x c.number i (asker_of x c hit) in
        let eq : w.was ≡ e = one_of exchange_number s.exchanges w.was e rise w.there its (sym w.number ∙ number) in
        ap (λ o. is_this c.number o) (ap (λ (z : Exchange). z.asker) (sym eq) ∙ w.asker) ∙ number_same c.number

    of : (c : Client) → IsIn c (change (is_for e) (into_pipe (poured fresh)) t.clients) → Changed (is_for e) (into_pipe (poured fresh)) t.clients c
    of c i = in_change (is_for e) (into_pipe (poured fresh)) c t.clients i

    stage_of : (c d : Client) → c ≡ into_pipe (poured fresh) d → c.stage ≡ d.stage
    stage_of c d eq = ap (λ (z : Client). z.stage) eq ∙ (poured_same (poured fresh) d).stage

    for_of : (x : Exchange) (c d : Client) → c ≡ into_pipe (poured fresh) d → is_for x c ≡ true → is_for x d ≡ true
    for_of x c d eq hit = ap (λ n. is_this n x.asker) (sym (ap client_number eq ∙ (poured_same (poured fresh) d).number)) ∙ hit

    sourced_by : (c : Client) (id : ℕ) → Changed (is_for e) (into_pipe (poured fresh)) t.clients c → is_in_passed c.stage ≡ true → source_in c.stage ≡ Some id → ⊥
    sourced_by c id (same i isnt) on is = h.sourced c id i on is
    sourced_by c id (other d i hit eq) on is = h.sourced d id i (sym (ap is_in_passed (stage_of c d eq)) ∙ on) (sym (ap source_in (stage_of c d eq)) ∙ is)

    begun_by : (x : Exchange) (c : Client) → IsIn x t.exchanges → Changed (is_for e) (into_pipe (poured fresh)) t.clients c → is_for x c ≡ true → is_in_passed c.stage ≡ true → is_headed x ≡ true
    begun_by x c i (same j isnt) hit on = h.begun x c i j hit on
    begun_by x c i (other d j hers eq) hit on = h.begun x d i j (for_of x c d eq hit) (sym (ap is_in_passed (stage_of c d eq)) ∙ on)

    -- the client is as it was, but for the pipe
    behind_it : (g : Conn) (x : Exchange) (c d : Client) (p q : Passed) → g ≡ k → c ≡ into_pipe (poured fresh) d → q ≡ record p { pipe = poured fresh p.pipe } → Feeds tale g x d p → Feeds tale (to g) x c q
    behind_it g x c d p q same_conn eq piped v = record {
      front = v.front;
      answer = longer;
      is = refl;
      head = ap (λ (y : Passed). y.head) piped ∙ v.head ∙ ap (λ (y : Answer). y.head) same_answer;
      rule = ap (λ (y : Passed). y.rule) piped ∙ v.rule ∙ ap (λ (y : Answer). y.rule) same_answer;
      relayed = λ isnt.
          let w = v.relayed isnt in
          subst (λ (y : Passed). Relays (tale.said c.number) c y (payload_of longer)) (sym piped)
          (subst (λ (content : Bytes). Relays (tale.said c.number) c (record p { pipe = poured fresh p.pipe }) content) (sym grown)
          (relays_poured (tale.said d.number) (tale.said c.number) c d p (payload_of a) (ap tale.said (ap client_number eq ∙ (poured_same (poured fresh) d).number)) (stage_of c d eq) (ap (λ (z : Client). z.interim_left) eq ∙ (poured_same (poured fresh) d).left) (v.going isnt)
          (subst (λ (y : Answer). Relays (tale.said d.number) d p (payload_of y)) same_answer w) fresh));
      going = λ isnt. ap (λ (y : Passed). y.pipe.is_finished) piped ∙ poured_ends fresh p.pipe ∙ v.going isnt;
    }
      where
        same_answer : v.answer ≡ a
        same_answer = let both : Some v.answer ≡ Some a = sym v.is ∙ ap (λ (y : Conn). y.answer) same_conn ∙ has in cc both

    its_number : (g : Conn) (x : Exchange) → g ≡ k → first_of g.line ≡ Some x.number → x.number ≡ e.number
    its_number g x same_conn front = let both : Some x.number ≡ Some e.number = sym front ∙ ap (λ (y : Conn). first_of y.line) same_conn ∙ first in cc both

    fed_here : (g : Conn) (x : Exchange) (c : Client) (q : Passed) → IsIn g t.conns → g ≡ k → IsIn x t.exchanges → IsIn x.number g.line → is_headed x ≡ true → Changed (is_for e) (into_pipe (poured fresh)) t.clients c → is_for x c ≡ true → is_in_other c.stage ≡ false → passed_of c ≡ Some q
        → Feeds tale (to g) x c q
    fed_here g x c q l same_conn i m is (same j isnt) hit off some =
        let v = h.fed_by g x c q l i m is j hit off some in
        let both : false ≡ true = sym isnt ∙ for_it x c i (its_number g x same_conn v.front) hit in absurd (cc both)
    fed_here g x c q l same_conn i m is (other d j hers eq) hit off some =
        let w = poured_of (poured fresh) d q (sym (ap passed_of eq) ∙ some) in
        behind_it g x c d w.0 q same_conn eq w.2 (h.fed_by g x d w.0 l i m is j (for_of x c d eq hit) (sym (ap is_in_other (stage_of c d eq)) ∙ off) w.1)

    fed_away : (j : Conn) (x : Exchange) (c : Client) (q : Passed) → IsIn j t.conns → is_conn k.number j ≡ false → IsIn x t.exchanges → IsIn x.number j.line → is_headed x ≡ true → Changed (is_for e) (into_pipe (poured fresh)) t.clients c → is_for x c ≡ true → is_in_other c.stage ≡ false → passed_of c ≡ Some q
        → Feeds tale j x c q
    fed_away j x c q l isnt i m is (same g isnt2) hit off some = h.fed_by j x c q l i m is g hit off some
    fed_away j x c q l isnt i m is (other d g hers eq) hit off some = absurd (elsewhere j x l isnt (lone x d i (for_of x c d eq hit) hers) m)

    fed_at : (j : Conn) (x : Exchange) (c : Client) (q : Passed) → Changed (is_conn k.number) to t.conns j → IsIn x t.exchanges → IsIn x.number j.line → is_headed x ≡ true → Changed (is_for e) (into_pipe (poured fresh)) t.clients c → is_for x c ≡ true → is_in_other c.stage ≡ false → passed_of c ≡ Some q → Feeds tale j x c q
    fed_at j x c q (same l isnt) i m is o hit off some = fed_away j x c q l isnt i m is o hit off some
    fed_at j x c q (other g l hers eq) i m is o hit off some =
        subst (λ (y : Conn). Feeds tale y x c q) (sym eq) (fed_here g x c q l (one_conn g l hers) i (subst (λ (y : Conn). IsIn x.number y.line) eq m) is o hit off some)

    answers_by : tale.follows ≡ true → (j : Conn) (x : Answer) (n : ℕ) → Changed (is_conn k.number) to t.conns j → j.answer ≡ Some x → tale.firsts j.number ≡ Some n → Answers n t.exchanges t.next_exchange
    answers_by on j x n (same l isnt) is named = h.answers on j x n l is named
    answers_by on j x n (other g l hers eq) is named = h.answers on g a n l (ap (λ (y : Conn). y.answer) (one_conn g l hers) ∙ has) (ap tale.firsts (sym (ap conn_number eq)) ∙ named)

    kept_at : tale.follows ≡ true → (c : Client) (q : Passed) → Changed (is_for e) (into_pipe (poured fresh)) t.clients c → is_in_other c.stage ≡ false → passed_of c ≡ Some q → Keeps tale c q
    kept_at on c q (same j isnt) off some = h.kept on c q j off some
    kept_at on c q (other d j hers eq) off some =
        let w = poured_of (poured fresh) d q (sym (ap passed_of eq) ∙ some) in
        subst (λ (z : Client). Keeps tale z q) (sym eq) (subst (λ (y : Passed). Keeps tale (into_pipe (poured fresh) d) y) (sym w.2) (keeps on d w.0 j hers (sym (ap is_in_other (stage_of c d eq)) ∙ off) w.1))

    going-poured : Fed tale (on_conn k.number (λ i. record i { answer = Some (record a { raw = more }) }) (pour e (poured fresh) t))
    unfolding on_conn pour on_client_of
    going-poured = fed (record {
      apart = rise_change client_number (is_for e) (into_pipe (poured fresh)) (λ c. (poured_same (poured fresh) c).number) t.clients h.apart;
      rise = h.rise;
      given = h.given;
      one = h.one;
      headed = h.headed;
      sourced = λ c id i on is. sourced_by c id (of c i) on is;
      begun = λ x c i j hit on. begun_by x c i (of c j) hit on;
      fed_by = λ j x c q l i m is o hit off some. fed_at j x c q (in_change (is_conn k.number) to j t.conns l) i m is (of c o) hit off some;
      answers = λ on j x n l is named. answers_by on j x n (in_change (is_conn k.number) to j t.conns l) is named;
      kept = λ on c q o off some. kept_at on c q (of c o) off some;
    })

  -- so far the data that came of an answer went into the pipes of those whose exchange it is
  flow_fed : (k : Conn) (e : Exchange) (a : Answer) (s : State) → tale.but ≡ None → IsIn k s.conns → k.answer ≡ Some a → front_of_line s k ≡ Some e → (tale.follows ≡ true → tale.firsts k.number ≡ first_of k.line) → Fed tale s → tale.follows ≡ true → Flow tale e a (payload_of a) s.clients
  flow_fed k e a s calm there has front named h on d p i hit off some = record {
    head = v.head ∙ ap (λ (y : Answer). y.head) same_answer;
    rule = v.rule ∙ ap (λ (y : Answer). y.rule) same_answer;
    going = v.going never;
    relays = subst (λ (y : Answer). Relays (tale.said d.number) d p (payload_of y)) same_answer (v.relayed never);
  }
    where
      its : IsIn e s.exchanges × (first_of k.line ≡ Some e.number)
      its = front_by s k.line e front

      headed : is_headed e ≡ true
      headed = ((facts_of h).answers on k a e.number there has (named on ∙ its.1)).headed e its.0 refl

      v : Feeds tale k e d p
      v = (facts_of h).fed_by k e d p there its.0 (stands_first k.line e.number its.1) headed i hit off some

      same_answer : v.answer ≡ a
      same_answer = let both : Some v.answer ≡ Some a = sym v.is ∙ has in cc both

      never : tale.but ≡ Some e.number → ⊥
      never so = let both : None ≡ Some e.number = sym calm ∙ so in cc both

  body_piece-fed : {b : Since} (k : Conn) (a : Answer) (bytes : Bytes) (s : State) → tale.but ≡ None → IsIn k s.conns → k.answer ≡ Some a → (tale.follows ≡ true → Hears tale k bytes s) → Sound b s → Fed tale s → Fed tale (body_piece k a bytes s).state
  unfolding deliver pour on_client_of
  body_piece-fed k a bytes s calm there has hears hs h = by (front_of_line s k) refl
    where
      ground : Ground
      ground = record { conns = s.conns; exchanges = s.exchanges; next = s.next_exchange }

      by_outcome_of : (e : Exchange) (outcome : Outcome) → (body_of a.rule (a.raw ++ bytes)).outcome ≡ outcome → front_of_line s k ≡ Some e → let t : State = deliver e a (length (payload_of a)) (drop (length (payload_of a)) (body_of a.rule (a.raw ++ bytes)).payload) s in
          Fed tale (elim outcome as (λ c. Piece) [
            | Going ↦ record { state = on_conn k.number (λ i. record i { answer = Some (record a { raw = a.raw ++ bytes }) }) t; rest = [] }
            | Bad ↦ record { state = bad_response k t; rest = [] }
            | Done rest ↦ record { state = finish k e a t; rest = rest }
          ]).state
      by_outcome_of e outcome ends front = at outcome ends
        where
          at_len : ℕ
          at_len = length (payload_of a)

          fresh : Bytes
          fresh = drop (length (payload_of a)) (body_of a.rule (a.raw ++ bytes)).payload

          -- its bytes are on record, and joined
          r : State
          r = join_bound e (drop (length (payload_of a)) (body_of a.rule (a.raw ++ bytes)).payload) (note_sent e a (length (payload_of a)) (drop (length (payload_of a)) (body_of a.rule (a.raw ++ bytes)).payload) s)

          t : State
          t = deliver e a (length (payload_of a)) (drop (length (payload_of a)) (body_of a.rule (a.raw ++ bytes)).payload) s

          itself_there : IsIn e s.exchanges × (first_of k.line ≡ Some e.number)
          itself_there = front_by s k.line e front

          readied : Over tale ground (join_bound e fresh (note_sent e a at_len fresh s))
          readied = readied-over e a at_len fresh s (over h (refl, refl) (descend_self s.exchanges))

          lone : Lone e (join_bound e fresh (note_sent e a at_len fresh s)).exchanges
          lone = lone_by e s _ itself_there.0 (over_from readied) h

          clients : r.clients ≡ s.clients
          clients = readied_clients e a at_len fresh s

          flow : tale.follows ≡ true → Flow tale e a (payload_of a) r.clients
          flow on d p i = flow_fed k e a s calm there has front (λ so. (hears so).named) h on d p (subst (λ cs. IsIn d cs) clients i)

          grown : (body_of a.rule (a.raw ++ bytes)).payload ≡ payload_of a ++ fresh
          grown = payload_grown a.rule a.raw bytes

          comes : (is_whole : Bool) → (is_whole ≡ true → IsDone (body_of a.rule (a.raw ++ bytes)).outcome) → tale.follows ≡ true → Comes tale e r.clients a.head a.rule (payload_of a ++ fresh) is_whole
          comes is_whole done on d i hit = subst (λ xs. tale.came d.number d.index a.head a.rule xs is_whole) grown ((hears on).goes e a has front is_whole done d (subst (λ cs. IsIn d cs) clients i) hit)

          keeps : KeepsIn tale e (poured fresh) r.clients
          keeps = keeps_poured {tale = tale} e a (payload_of a) fresh r.clients flow (comes false (λ is. absurd (cc is)))

          now : Over (amid e.number tale) ground t
          now = deliver-over e a at_len fresh s lone keeps calm (over h (refl, refl) (descend_self s.exchanges))

          first : IsFirstOn k e t.conns
          first j i number = ap (λ (y : Conn). first_of y.line) (one_of conn_number s.conns j k (sound_facts hs).lines.rise (subst (λ ks. IsIn j ks) (over_conns now) i) there number) ∙ itself_there.1

          goes_on : Fed tale (on_conn k.number (λ i. record i { answer = Some (record a { raw = a.raw ++ bytes }) }) t)
          goes_on =
              going-poured k a (a.raw ++ bytes) fresh e s _ there has hs itself_there.0 itself_there.1 (stands_first k.line e.number itself_there.1) (facts_of h).rise grown lone (over_conns readied) (over_from readied) keeps (over_fed readied)

          whole : (rest : Bytes) → (body_of a.rule (a.raw ++ bytes)).outcome ≡ Done rest → KeepsIn tale e finished t.clients
          whole rest is = keeps_finished {tale = tale} e a (payload_of a ++ fresh) t.clients (λ on. flow_poured {tale = tale} e a (payload_of a) fresh r.clients (flow on))
              (λ on. comes_from tale e r.clients t.clients a.head a.rule (payload_of a ++ fresh) true (stems_into e (poured fresh) r.clients r.clients (λ d i. record { was = d; there = i; number = refl; index = refl })) (comes true (λ so. (rest, is)) on))

          at : (o : Outcome) → (body_of a.rule (a.raw ++ bytes)).outcome ≡ o → Fed tale (elim o as (λ c. Piece) [
            | Going ↦ record { state = on_conn k.number (λ i. record i { answer = Some (record a { raw = a.raw ++ bytes }) }) t; rest = [] }
            | Bad ↦ record { state = bad_response k t; rest = [] }
            | Done rest ↦ record { state = finish k e a t; rest = rest }
          ]).state
          at Going is = goes_on
          at Bad is = bad_response-amid e.number k t itself_there.1 (over_fed now)
          at (Done rest) is = finish-fed {tale = tale} k e a t first (lone_by e s _ itself_there.0 (over_from now) h) (whole rest is) (over_fed now)

      by : (found : Option Exchange) → front_of_line s k ≡ found → Fed tale (elim found as (λ c. Piece) [ None ↦ record { state = close_conn false k s; rest = [] } | Some e ↦ body_piece_of k a e bytes s ]).state
      by None is = close_conn-fed false k s h
      by (Some e) is = by_outcome_of e (body_of a.rule (a.raw ++ bytes)).outcome refl is

  pub next_piece-fed : {b : Since} (k : Conn) (bytes : Bytes) (s : State) → tale.but ≡ None → IsIn k s.conns → (tale.follows ≡ true → Hears tale k bytes s) → Sound b s → Fed tale s → Fed tale (next_piece k bytes s).state
  next_piece-fed k bytes s calm there hears hs h = by k.answer refl
    where
      by : (answer : Option Answer) → k.answer ≡ answer → Fed tale (elim answer as (λ c. Piece) [ Some a ↦ body_piece k a bytes s | None ↦ head_piece k bytes s ]).state
      by None is = head_piece-fed k bytes s calm there is hears hs h
      by (Some a) is = body_piece-fed k a bytes s calm there is hears hs h

  -- where it is not looked at what came
  pub got-fed : {b : Since} (more n : ℕ) (bytes : Bytes) (s : State) → tale.but ≡ None → b.excepts ≡ None → (tale.follows ≡ true → ⊥) → Sound b s → Fed tale s → Fed tale (got more n bytes s)
  unfolding got
  got-fed zero n bytes s calm none silent hs h = h
  got-fed {b} (suc more) n bytes s calm none silent hs h =
      each_so (conn s n) (λ isnt. h)
      (λ k found.
      let there = (in_find (is_conn n) k s.conns found).0 in
      when (k.is_closing || is_empty bytes) h
      (got-fed more n (next_piece k bytes s).rest (next_piece k bytes s).state calm none silent (next_piece-sound k bytes s none there hs) (next_piece-fed k bytes s calm there (λ on. absurd (silent on)) hs h)))

  finish_first-fed : (k : Conn) (a : Answer) (s : State) → tale.but ≡ None → IsIn k s.conns → k.answer ≡ Some a → is_whole_at_end a ≡ true → (tale.follows ≡ true → EndsWell tale k s) → AreRising (map conn_number s.conns) → Fed tale s → Fed tale (finish_first k a s)
  unfolding finish_first
  finish_first-fed k a s calm there has whole well rise h =
      each_so (front_of_line s k) (λ isnt. h)
      (λ e front.
      finish-fed {tale = tale} k e a s (λ j i number. ap (λ (y : Conn). first_of y.line) (one_of conn_number s.conns j k rise i there number) ∙ (front_by s k.line e front).1) (lone_by e s s.exchanges (front_by s k.line e front).0 (descend_self s.exchanges) h)
      (keeps_finished {tale = tale} e a (payload_of a) s.clients (flow_fed k e a s calm there has front (λ on. (well on).named a has) h) (λ on. (well on).ends e a has front whole)) (weaker e.number s calm h))

  pub ended-fed : (is_clean : Bool) (k : Conn) (s : State) → tale.but ≡ None → IsIn k s.conns → (is_clean ≡ true → tale.follows ≡ true → EndsWell tale k s) → AreRising (map conn_number s.conns) → Fed tale s → Fed tale (ended is_clean k s)
  unfolding ended
  ended-fed is_clean k s calm there well rise h = by k.answer refl
    where
      at : (a : Answer) → k.answer ≡ Some a → (t : Bool) → (is_clean && is_whole_at_end a) ≡ t → Fed tale (elim t as (λ c. State) [ true ↦ close_this k.number (finish_first k a s) | false ↦ close_conn true k s ])
      at a has true is = close_this-fed k.number _ (finish_first-fed k a s calm there has (second_holds is_clean (is_whole_at_end a) is) (well (first_holds is_clean (is_whole_at_end a) is)) rise h)
      at a has false is = close_conn-fed true k s h

      by : (o : Option Answer) → k.answer ≡ o → Fed tale (elim o as (λ c. State) [ None ↦ close_conn true k s | Some a ↦ elim (is_clean && is_whole_at_end a) as (λ x. State) [ true ↦ close_this k.number (finish_first k a s) | false ↦ close_conn true k s ] ])
      by None none = close_conn-fed true k s h
      by (Some a) has = at a has (is_clean && is_whole_at_end a) refl
