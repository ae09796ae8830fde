-- What one read of an origin brings, response by response, keeps the bounds of what is connected.
use Rattle.std.proofs.Common.{◌≡◌, ◌⊎◌, refl, ℕ, zero, suc, ◌+◌, ◌<◌, ◌≤◌, map, filter, is_some, inl, inr, ap, le_trans, Bool, true, false, ◌&&◌, ◌||◌, List, [], ◌++◌, drop, length, Option, Some, None, Result, Ok, Err, subst, ◌==◌, ◌∷◌, sym, ◌∙◌}
use Rattle.pp_framing.specs.Body.{Outcome, Done, Going, Bad}
use Rattle.pp_framing.specs.Framing.{rule_of}
use Rattle.pp_framing.specs.Rules.{body_of}
use Rattle.pp_framing.specs.declared.body.BodyRule.{BodyRule}
use Rattle.pp_framing.specs.declared.framing.ResponseFault.{ResponseFault}
use Rattle.pp_head.specs.Read.{Read, Whole, TooLong, Bad as NoHead, More}
use Rattle.pp_head.specs.Response.{Response, response_at}
use Rattle.pp_pass.specs.Pipe.{finished}
use Rattle.pp_pipe.specs.Front.{is_interim}
use Rattle.pp_text.specs.Bytes.{is_empty}
use Rattle.pp_law.specs.Connections.{conn, exchange, is_conn, is_exchange, on_conn, front_of_line, close_conn, end_exchange, lose_attempt}
use Rattle.pp_law.specs.Lists.{Bytes, is_this}
use Rattle.pp_law.specs.OwnHeads.{is_wrong_head, join, join_bound, moved_on, note_own, note_sent}
use Rattle.pp_law.specs.Passing.{pour, poured}
use Rattle.pp_law.specs.Responses.{skipping, skip_body, rested, close_this, may_go_on, finish, bad_response, bad_head, asks_head, answer_with, answered_by, end_if_empty, begin_answer, answer_for, head_came, Piece, is_early, with_unread, head_piece, deliver, payload_of, body_piece_of, body_piece, next_piece, got, is_whole_at_end, finish_first, ended, bring_row}
use Rattle.pp_law.specs.Stages.{bound_of}
use Rattle.pp_law.specs.State.{State, Joining, Answer, Bound, Conn, Exchange}
use Rattle.pp_law.specs.Table.{instance}
use Rattle.pp_laws.specs.Runs.{IsIn}
use Rattle.pp_laws.proofs.Lists.{in_find}
use Rattle.pp_laws.proofs.Pieces.{got-sound}
use Rattle.pp_laws.proofs.Sound.{Sound, FactsOf as SoundFacts, exchange_number, facts_of as sound_facts, first_of}
use Rattle.pp_laws.proofs.Tests.{same_number}
use Rattle.pp_laws.proofs.Untouched.{bring_row-next, bring_row-untouched}
use Rattle.pp_laws_bounds.proofs.SmallCases.{by_aim_of, by_outcome, each_of, each_so, when}
use Rattle.pp_laws_bounds.proofs.SmallClients.{pour-small}
use Rattle.pp_laws_bounds.proofs.SmallClosings.{close_conn-small}
use Rattle.pp_laws_bounds.proofs.SmallChanges.{NotBound}
use Rattle.pp_laws_bounds.proofs.Closings.{covers}
use Rattle.pp_laws_bounds.proofs.Happenings.{from_now}
use Rattle.pp_laws_bounds.proofs.Kept.{Kept, Stands, FactsOf as KeptFacts, facts_of as kept_facts}
use Rattle.pp_laws_bounds.proofs.Pieces.{next_piece-kept}
use Rattle.pp_laws_bounds.proofs.Pigeons.{count-more, pigeons, rise_differ}
use Rattle.pp_laws_bounds.proofs.SmallExchanges.{end_exchange-small, fail-small, lose_attempt-small, on_client_of-small, on_conn-small, on_exchange-small}
use Rattle.pp_laws_bounds.proofs.SmallHeads.{bring_row-small, by_aim-small}
use Rattle.pp_laws_bounds.proofs.Small.{As, Small, counts_as_bound, facts_of, small}
use Rattle.pp_laws_bounds.proofs.SmallRows.{note_use-small}

-- nothing is expected; and this exchange is
abbrev pub plain : Bool → As
plain b = record { expects = None; stopped = b }

abbrev waiting : ℕ → Bool → As
waiting n b = record { expects = Some n; stopped = b }

-- with it bound there are at most 64
abbrev IsReady : Exchange → State → Type 0
IsReady e s = (length (filter (counts_as_bound (Some e.number)) s.exchanges) ≤ 64) × (e.number < s.next_exchange)

abbrev FirstIsReady : Conn → State → Type 0
FirstIsReady k s = (e : Exchange) → front_of_line s k ≡ Some e → IsReady e s

waiting_for : {b : Bool} (n : ℕ) (s : State) → length (filter (counts_as_bound (Some n)) s.exchanges) ≤ 64 → n < s.next_exchange → Small (plain b) s → Small (waiting n b) s
waiting_for n s few given h = small (record {
  said = (facts_of h).said;
  rests = (facts_of h).rests;
  awaits = (facts_of h).awaits;
  few_clients = (facts_of h).few_clients;
  few_bound = few;
  expected = λ m is. let e : n ≡ m = cc is in subst (λ x. x < s.next_exchange) e given;
  few_rows = (facts_of h).few_rows;
  differ = (facts_of h).differ;
  given = (facts_of h).given;
})

-- what is bound counts either way
taken : {b : Bool} {n : ℕ} {s : State} → Small (waiting n b) s → Small (plain b) s
taken {b} {n} {s} h = small (record {
  said = (facts_of h).said;
  rests = (facts_of h).rests;
  awaits = (facts_of h).awaits;
  few_clients = (facts_of h).few_clients;
  few_bound = le_trans (count-more (counts_as_bound None) (counts_as_bound (Some n)) s.exchanges (λ e i. more (is_some (bound_of e)) (n == e.number))) (facts_of h).few_bound;
  expected = λ m is. absurd (cc is);
  few_rows = (facts_of h).few_rows;
  differ = (facts_of h).differ;
  given = (facts_of h).given;
})
  where
    more : (t u : Bool) → (t || false) ≡ true → (t || u) ≡ true
    more true u is = refl
    more false u is = absurd (cc is)

-- ---- ends

skip_body-small : {m : As} (e : Exchange) (s : State) → Small m s → Small m (skip_body e s)
unfolding skip_body
skip_body-small e s h = by_aim_of e.aim (on_client_of-small e skipping s h) h (λ v from to. h)

close_this-small : {b : Bool} (n : ℕ) (s : State) → Small (plain b) s → Small (plain b) (close_this n s)
unfolding close_this
close_this-small n s h = each_so (conn s n) (λ none. h) (λ k found. close_conn-small true k s h)

finish-small : {b : Bool} (k : Conn) (e : Exchange) (a : Answer) (s : State) → Small (plain b) s → Small (plain b) (finish k e a s)
unfolding finish
finish-small {b} k e a s h = when (may_go_on e a.head) done (close_this-small k.number _ done)
  where
    done : Small (plain b) (on_conn k.number (rested a.head) (end_exchange e.number (skip_body e (pour e finished s))))
    done = on_conn-small k.number (rested a.head) _ (λ j. record { number = refl; host = refl; port = refl; line = refl; closing = refl }) (end_exchange-small e.number _ (skip_body-small e _ (pour-small e finished s h)))

bad_response-small : {b : Bool} (k : Conn) (s : State) → Small (plain b) s → Small (plain b) (bad_response k s)
unfolding bad_response
bad_response-small k s h =
    each_of (front_of_line s k) (close_conn-small false k s h)
    (λ e. close_conn-small false k _ (end_exchange-small e.number _ (fail-small e s h)))

bad_head-small : {b : Bool} (k : Conn) (s : State) → Small (plain b) s → Small (plain b) (bad_head k s)
unfolding bad_head
bad_head-small {b} k s h = by k.has_brought
  where
    by : (t : Bool) → Small (plain b) (elim t as (λ c. State) [
      | false ↦ bad_response k s
      | true ↦ elim (front_of_line s k) as (λ c. State) [ None ↦ close_conn false k s | Some e ↦ close_conn false k (lose_attempt e s) ]
    ])
    by false = bad_response-small k s h
    by true = each_of (front_of_line s k) (close_conn-small false k s h) (λ e. close_conn-small false k _ (lose_attempt-small e s h))

-- ---- heads

end_if_empty-small : {b : Bool} (k : Conn) (e : Exchange) (a : Answer) (s : State) → Small (plain b) s → Small (plain b) (end_if_empty k e a s)
unfolding end_if_empty
end_if_empty-small k e a s h = by_outcome (body_of a.rule []).outcome (λ rest. finish-small k e a s h) h h

begin_answer-small : {b : Bool} (k : Conn) (e : Exchange) (head : Response) (rule : BodyRule) (s : State) → IsReady e s → Small (plain b) s → Small (plain b) (begin_answer k e head rule s)
unfolding begin_answer on_conn
begin_answer-small k e head rule s ready h = end_if_empty-small k e (answer_with e head rule) _ (taken (by_aim-small e head rule _ refl (waiting_for e.number _ ready.0 ready.1 (on_conn-small k.number (answered_by (answer_with e head rule)) s (λ j. record { number = refl; host = refl; port = refl; line = refl; closing = refl }) h))))

answer_for-small : {b : Bool} (k : Conn) (e : Exchange) (head : Response) (s : State) → IsReady e s → Small (plain b) s → Small (plain b) (answer_for k e head s)
unfolding answer_for
answer_for-small {b} k e head s ready h = when (is_wrong_head e head) (bad_head-small k s h) (by_rule (rule_of (asks_head e) head.status head.fields))
  where
    by_rule : (read : Result BodyRule ResponseFault) → Small (plain b) (elim read as (λ c. State) [ Ok rule ↦ begin_answer k e head rule s | Err fault ↦ bad_head k s ])
    by_rule (Ok rule) = begin_answer-small k e head rule s ready h
    by_rule (Err fault) = bad_head-small k s h

ready_brought : (e : Exchange) (head : Response) (s : State) → IsReady e s → IsReady e (bring_row e head s)
ready_brought e head s ready = (
  subst (λ es. length (filter (counts_as_bound (Some e.number)) es) ≤ 64) (sym (bring_row-untouched e head s).exchanges) ready.0,
  subst (λ n. e.number < n) (sym (bring_row-next e head s)) ready.1,
)

head_came-small : {b : Bool} (k : Conn) (head : Response) (s : State) → FirstIsReady k s → Small (plain b) s → Small (plain b) (head_came k head s)
unfolding head_came
head_came-small k head s ready h = each_so (front_of_line s k) (λ none. close_conn-small false k s h) (λ e first. answer_for-small k e head _ (ready_brought e head s (ready e first)) (bring_row-small e head s h))

piece_when : {b : Bool} (t : Bool) (p q : Piece) → Small (plain b) p.state → Small (plain b) q.state → Small (plain b) (elim t as (λ c. Piece) [ true ↦ p | false ↦ q ]).state
piece_when true p q hp hq = hp
piece_when false p q hp hq = hq

with_unread-small : {b : Bool} (k : Conn) (bytes : Bytes) (s : State) → Small (plain b) s → Small (plain b) (on_conn k.number (with_unread bytes) s)
with_unread-small k bytes s h = on_conn-small k.number (with_unread bytes) s (λ i. record { number = refl; host = refl; port = refl; line = refl; closing = refl }) h

head_piece_by : {b : Bool} (k : Conn) (bytes : Bytes) (s : State) (read : Read Response) → FirstIsReady k s → Small (plain b) s
    → Small (plain b) (elim read as (λ c. Piece) [
      | More ↦ record { state = on_conn k.number (with_unread bytes) s; rest = [] }
      | TooLong ↦ record { state = bad_head k s; rest = [] }
      | NoHead ↦ record { state = bad_head k s; rest = [] }
      | Whole head ↦ elim (is_interim head.status) as (λ c. Piece) [
        | true ↦ record { state = on_conn k.number (with_unread []) s; rest = drop head.length bytes }
        | false ↦ record { state = head_came k head s; rest = drop head.length bytes }
      ]
    ]).state
head_piece_by k bytes s More ready h = with_unread-small k bytes s h
head_piece_by k bytes s TooLong ready h = bad_head-small k s h
head_piece_by k bytes s NoHead ready h = bad_head-small k s h
head_piece_by k bytes s (Whole head) ready h = piece_when (is_interim head.status) _ _ (with_unread-small k [] s h) (head_came-small k head s ready h)

head_piece-small : {b : Bool} (k : Conn) (bytes : Bytes) (s : State) → FirstIsReady k s → Small (plain b) s → Small (plain b) (head_piece k bytes s).state
head_piece-small k bytes s ready h = piece_when (is_early s k) _ _ (close_conn-small true k s h) (head_piece_by k (k.unread ++ bytes) s (response_at (k.unread ++ bytes)) ready h)

-- ---- bodies

note_own-small : {m : As} (e : Exchange) (a : Answer) (at : ℕ) (bytes : Bytes) (s : State) → Small m s → Small m (note_own e a at bytes s)
unfolding note_own
note_own-small e a at bytes s h = when (is_empty bytes) h (small (facts_of h))

note_sent-small : {m : As} (e : Exchange) (a : Answer) (at : ℕ) (bytes : Bytes) (s : State) → Small m s → Small m (note_sent e a at bytes s)
unfolding note_sent
note_sent-small e a at bytes s h = by_aim_of e.aim h (note_own-small e a at bytes s h) (λ v from to. note_own-small e a at bytes s h)

join-small : {m : As} (b : Bound) (bytes : Bytes) (s : State) → Small m s → Small m (join b bytes s)
unfolding join
join-small b bytes s h = each_of _ h (λ x. note_use-small _ (small (facts_of h)))

moved_counts : (n : ℕ) → NotBound (moved_on n)
moved_counts n expects e is = by (bound_of e) refl is
  where
    by : (o : Option Bound) → bound_of e ≡ o → counts_as_bound expects (elim o as (λ c. Exchange) [ None ↦ e | Some b ↦ record e { body = Joining (record b { next = b.next + n }) } ]) ≡ true → counts_as_bound expects e ≡ true
    by None none at = at
    by (Some b) some at = ap (λ o. is_some o || is_this e.number expects) some

join_bound-small : {m : As} (e : Exchange) (bytes : Bytes) (s : State) → Small m s → Small m (join_bound e bytes s)
unfolding join_bound
join_bound-small e bytes s h = each_of (bound_of e) h (λ b. on_exchange-small e.number (moved_on (length bytes)) _ (moved_counts (length bytes)) (join-small b bytes s h))

deliver-small : {m : As} (e : Exchange) (a : Answer) (at : ℕ) (bytes : Bytes) (s : State) → Small m s → Small m (deliver e a at bytes s)
unfolding deliver
deliver-small e a at bytes s h = pour-small e (poured bytes) _ (join_bound-small e bytes _ (note_sent-small e a at bytes s h))

body_piece_by : {b : Bool} (k : Conn) (a : Answer) (e : Exchange) (bytes : Bytes) (t : State) (outcome : Outcome) → Small (plain b) t
    → Small (plain b) (elim outcome as (λ c. Piece) [
      | Going ↦ record { state = on_conn k.number (λ i. record i { answer = Some (record a { raw = a.raw ++ bytes }) }) t; rest = [] }
      | Bad ↦ record { state = bad_response k t; rest = [] }
      | Done rest ↦ record { state = finish k e a t; rest = rest }
    ]).state
body_piece_by k a e bytes t Going h = on_conn-small k.number (λ i. record i { answer = Some (record a { raw = a.raw ++ bytes }) }) t (λ i. record { number = refl; host = refl; port = refl; line = refl; closing = refl }) h
body_piece_by k a e bytes t Bad h = bad_response-small k t h
body_piece_by k a e bytes t (Done rest) h = finish-small k e a t h

body_piece-small : {b : Bool} (k : Conn) (a : Answer) (bytes : Bytes) (s : State) → Small (plain b) s → Small (plain b) (body_piece k a bytes s).state
body_piece-small {b} k a bytes s h = by (front_of_line s k)
  where
    by : (front : Option Exchange) → Small (plain b) (elim front as (λ c. Piece) [ None ↦ record { state = close_conn false k s; rest = [] } | Some e ↦ body_piece_of k a e bytes s ]).state
    by None = close_conn-small false k s h
    by (Some e) =
        let at : ℕ = length (payload_of a) in
        let fresh : Bytes = drop at (body_of a.rule (a.raw ++ bytes)).payload in
        body_piece_by k a e bytes (deliver e a at fresh s) (body_of a.rule (a.raw ++ bytes)).outcome (deliver-small e a at fresh s h)

next_piece-small : {b : Bool} (k : Conn) (bytes : Bytes) (s : State) → FirstIsReady k s → Small (plain b) s → Small (plain b) (next_piece k bytes s).state
next_piece-small {b} k bytes s ready h = by k.answer
  where
    by : (answer : Option Answer) → Small (plain b) (elim answer as (λ c. Piece) [ Some a ↦ body_piece k a bytes s | None ↦ head_piece k bytes s ]).state
    by None = head_piece-small k bytes s ready h
    by (Some a) = body_piece-small k a bytes s h

-- ---- the read

-- an exchange that is there, the first of a line
abbrev first_line : Conn → Option ℕ
first_line k = first_of k.line

front_by : (s : State) (line : List ℕ) (e : Exchange) → (elim line as (λ c. Option Exchange) [ [] ↦ None | n ∷ ns ↦ exchange s n ]) ≡ Some e → IsIn e s.exchanges × (first_of line ≡ Some e.number)
front_by s [] e is = absurd (cc is)
front_by s (n ∷ ns) e is = let there = in_find (is_exchange n) e s.exchanges is in (there.0, ap (λ m. Some m) (sym (same_number e.number n there.1)))

-- whatever is bound, or is expected to be, is the first of a line of its own
first_ready : (k : Conn) (s : State) → IsIn k s.conns → s.is_stopped ≡ false → SoundFacts from_now s → KeptFacts [] s → FirstIsReady k s
first_ready k s there going sound lined e first = (le_trans (pigeons exchange_number first_line (counts_as_bound (Some e.number)) s.exchanges s.conns (rise_differ (map exchange_number s.exchanges) sound.asks.rise) each) lined.lines.few, sound.asks.given e (front_by s k.line e first).0)
  where
    standing : (d : Exchange) (to : Bound) (n : ℕ) → IsIn d s.exchanges → bound_of d ≡ Some to → Stands d n s.conns ⊎ IsIn d.number [] → (j : Conn) × IsIn j s.conns × (first_of j.line ≡ Some d.number)
    standing d to n i some (inl w) = (w.0, w.1, (sound.brings w.0 d to w.1 i w.3 some (λ is. absurd (cc is))).front)
    standing d to n i some (inr none) = absurd none

    placed : (d : Exchange) (to : Bound) → IsIn d s.exchanges → bound_of d ≡ Some to → (o : Option ℕ) → d.place ≡ o → (j : Conn) × IsIn j s.conns × (first_of j.line ≡ Some d.number)
    placed d to i some None none = let both : None ≡ Some to = sym (sound.asks.unplaced d i none) ∙ some in absurd (cc both)
    placed d to i some (Some n) is = standing d to n i some (lined.lined going d n i is)

    bound_by : (d : Exchange) → IsIn d s.exchanges → (o : Option Bound) → bound_of d ≡ o → (is_some o || (e.number == d.number)) ≡ true → (j : Conn) × IsIn j s.conns × (first_of j.line ≡ Some d.number)
    bound_by d i (Some to) some is = placed d to i some d.place refl
    bound_by d i None none is = (k, there, (front_by s k.line e first).1 ∙ ap (λ n. Some n) (same_number e.number d.number is))

    each : (d : Exchange) → IsIn d s.exchanges → counts_as_bound (Some e.number) d ≡ true → (j : Conn) × IsIn j s.conns × (first_line j ≡ Some d.number)
    each d i is = bound_by d i (bound_of d) refl is

next_sound : (k : Conn) (n : ℕ) (bytes : Bytes) (s : State) → conn s n ≡ Some k → (k.is_closing || is_empty bytes) ≡ false → Sound from_now s → Sound from_now (next_piece k bytes s).state
unfolding got
next_sound k n bytes s found goes h =
    subst (λ t. Sound from_now (elim t as (λ c. State) [ true ↦ s | false ↦ (next_piece k bytes s).state ])) goes
    (subst (λ o. Sound from_now (elim o as (λ c. State) [ None ↦ s | Some j ↦ elim (j.is_closing || is_empty bytes) as (λ c. State) [ true ↦ s | false ↦ (next_piece j bytes s).state ] ])) found (got-sound 1 n bytes s refl h))

-- one read, where nobody said Stop
pub got-small : (more n : ℕ) (bytes : Bytes) (s : State) → Sound from_now s → Kept [] s → Small (plain false) s → Small (plain false) (got more n bytes s)
unfolding got
got-small zero n bytes s sound kept_so h = h
got-small (suc more) n bytes s sound kept_so h = by (conn s n) refl (λ k found goes next_so. got-small more n (next_piece k bytes s).rest (next_piece k bytes s).state (next_sound k n bytes s found goes sound) (next_piece-kept k bytes s (covers k s (in_find (is_conn n) k s.conns found).0 kept_so) kept_so) next_so)
  where
    goes_on : (k : Conn) → conn s n ≡ Some k → (t : Bool) → (k.is_closing || is_empty bytes) ≡ t
        → ((k : Conn) → conn s n ≡ Some k → (k.is_closing || is_empty bytes) ≡ false → Small (plain false) (next_piece k bytes s).state → Small (plain false) (got more n (next_piece k bytes s).rest (next_piece k bytes s).state))
        → Small (plain false) (elim t as (λ c. State) [ true ↦ s | false ↦ got more n (next_piece k bytes s).rest (next_piece k bytes s).state ])
    goes_on k found true is rest = h
    goes_on k found false is rest = rest k found is (next_piece-small k bytes s (first_ready k s (in_find (is_conn n) k s.conns found).0 (facts_of h).said (sound_facts sound) (kept_facts kept_so)) h)

    by : (o : Option Conn) → conn s n ≡ o
        → ((k : Conn) → conn s n ≡ Some k → (k.is_closing || is_empty bytes) ≡ false → Small (plain false) (next_piece k bytes s).state → Small (plain false) (got more n (next_piece k bytes s).rest (next_piece k bytes s).state))
        → Small (plain false) (elim o as (λ c. State) [ None ↦ s | Some k ↦ elim (k.is_closing || is_empty bytes) as (λ c. State) [ true ↦ s | false ↦ got more n (next_piece k bytes s).rest (next_piece k bytes s).state ] ])
    by None none rest = h
    by (Some k) found rest = goes_on k found (k.is_closing || is_empty bytes) refl rest

-- ---- the end of a connection

finish_first-small : {b : Bool} (k : Conn) (a : Answer) (s : State) → Small (plain b) s → Small (plain b) (finish_first k a s)
unfolding finish_first
finish_first-small k a s h = each_of (front_of_line s k) h (λ e. finish-small k e a s h)

pub ended-small : {b : Bool} (is_clean : Bool) (k : Conn) (s : State) → Small (plain b) s → Small (plain b) (ended is_clean k s)
unfolding ended
ended-small is_clean k s h =
    each_of k.answer (close_conn-small true k s h) (λ a. when (is_clean && is_whole_at_end a) (close_this-small k.number _ (finish_first-small k a s h)) (close_conn-small true k s h))
