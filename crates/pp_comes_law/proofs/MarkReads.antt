-- Amid a read of an origin a chunk is free for each piece: with the bytes that are still to come, and two chunks for each exchange of the line, there
-- are no more chunks than the critical mark says.
use Rattle.std.proofs.Common.{◌≡◌, ◌⊎◌, ◌≤◌, ◌<◌, refl, sym, subst, ap, ◌∙◌, ℕ, ◌+◌, ◌-◌, ◌*◌, ◌/◌, Bool, true, false, length, length-drop, map, List, [], ◌∷◌, ◌++◌, Some, inl, inr, le_trans, arith}
use Rattle.std.proofs.Math.Nat.{mul-div-le}
use Rattle.pp_framing.specs.Body.{Body, Outcome, Done, Going, Bad}
use Rattle.pp_framing.specs.Framing.{rule_of}
use Rattle.pp_framing.specs.Rules.{body_of}
use Rattle.pp_framing.specs.declared.body.BodyRule.{BodyRule}
use Rattle.pp_head.specs.Response.{Response}
use Rattle.pp_law.specs.Chunks.{joined, note_use}
use Rattle.pp_law.specs.Connections.{end_exchange, front_of_line, is_conn, on_conn, on_exchange, without_ask}
use Rattle.pp_law.specs.Lists.{Bytes}
use Rattle.pp_law.specs.OwnHeads.{is_wrong_head, join, join_bound, joined_one, note_own, note_sent}
use Rattle.pp_law.specs.Passing.{pour, poured}
use Rattle.pp_law.specs.Responses.{answer_for, answer_with, answered_by, Piece, asks_head, bad_response, begin_answer, body_piece_of, deliver, end_if_empty, finish, head_came, may_go_on, payload_of, rested, skip_body, with_unread}
use Rattle.pp_law.specs.Stages.{bound_of}
use Rattle.pp_law.specs.State.{State, Answer, Bound, Chunk, Conn, Exchange}
use Rattle.pp_law.specs.Table.{extent_of}
use Rattle.pp_laws.proofs.Lists.{From, in_map}
use Rattle.pp_laws.proofs.Payloads.{payload-grows}
use Rattle.pp_laws.specs.Runs.{IsIn}
use Rattle.pp_laws_bounds.proofs.Counts.{length-filter}
use Rattle.pp_laws_pool.proofs.ChunkLists.{joined_few}
use Rattle.pp_laws_pool.proofs.Payloads.{body_weighs, left_by}
use Rattle.pp_laws_pool.proofs.PoolFacts.{GoesOn}
use Rattle.pp_laws_pool.proofs.View.{Holds, View, Walk, facts_of, holds}
use Rattle.pp_laws_pool.proofs.WalkCases.{by_aim_of, by_outcome, by_result, each_of, when}
use Rattle.pp_laws_pool.proofs.WalkClients.{pour-keeps}
use Rattle.pp_laws_pool.proofs.WalkClosings.{close_conn-keeps}
use Rattle.pp_laws_pool.proofs.WalkHeads.{bring_row-keeps, by_aim-keeps}
use Rattle.pp_laws_pool.proofs.WalkPieces.{bad_head-keeps, bad_response-keeps, close_this-keeps, finish-keeps, skip_body-keeps}
use Rattle.pp_pass.specs.Pipe.{finished}
use Rattle.pp_reads_law.specs.Pieces.{data_in}
use Rattle.pp_text.specs.Bytes.{is_empty}
use Rattle.pp_comes_law.proofs.NotedEnds.{delivered_beside, number_at, one_out, poured_beside, skipped_beside}

-- ---- no more chunks than these, and no more exchanges in the line of that connection

pub record Marked (n most asks : ℕ) (conns : List Conn) (chunks : List Chunk) : Type 0 where
  pub few : length chunks ≤ most
  pub lined : (k : Conn) → IsIn k conns → k.number ≡ n → length k.line ≤ asks

abbrev pub InMark : ℕ → ℕ → ℕ → View → Type 0
InMark n most asks v = Marked n most asks v.conns v.chunks

pub few_in : {n most asks : ℕ} {s : State} → Holds (InMark n most asks) s → length s.chunks ≤ most
few_in h = (facts_of h).few

pub lined_in : {n most asks : ℕ} {s : State} → Holds (InMark n most asks) s → (k : Conn) → IsIn k s.conns → k.number ≡ n → length k.line ≤ asks
lined_in h = (facts_of h).lined

pub in_mark : (n most asks : ℕ) (s : State) → length s.chunks ≤ most → ((k : Conn) → IsIn k s.conns → k.number ≡ n → length k.line ≤ asks) → Holds (InMark n most asks) s
in_mark n most asks s few lined = holds (record { few = few; lined = lined })

lined_map : (n asks : ℕ) (g : Conn → Conn) (ks : List Conn) → ((k : Conn) → (g k).number ≡ k.number) → ((k : Conn) → IsIn k ks → k.number ≡ n → length (g k).line ≤ asks) → (k : Conn) → IsIn k (map g ks) → k.number ≡ n → length k.line ≤ asks
lined_map n asks g ks number line k i its =
    let r : From g ks k = in_map g k ks i in
    subst (λ (j : Conn). length j.line ≤ asks) (sym r.is) (line r.was r.there (sym (ap (λ (j : Conn). j.number) r.is ∙ number r.was) ∙ its))

mark_walk : (n most asks : ℕ) → Walk (InMark n most asks)
unfolding on_exchange
mark_walk n most asks = record {
  clients = λ f kept v h. h;
  asks = λ f kept v h. h;
  left = λ test v h. h;
  over = λ test v h. h;
  conns = λ f lesser v h. record { few = h.few; lined = lined_map n asks f v.conns (λ k. (lesser k).number) (λ k i its. le_trans (lesser k).line (h.lined k i its)) };
  chunks = λ test v h. record { few = le_trans (length-filter test v.chunks) h.few; lined = h.lined };
  again = λ n s may h. h;
}

set_mark : {n most asks : ℕ} (m : ℕ) (f : Conn → Conn) (s : State) → ((k : Conn) → (f k).number ≡ k.number) → ((k : Conn) → (f k).line ≡ k.line) → Holds (InMark n most asks) s → Holds (InMark n most asks) (on_conn m f s)
unfolding on_conn
set_mark {n} {most} {asks} m f s number line h = holds (record {
  few = (facts_of h).few;
  lined = lined_map n asks (λ k. elim (is_conn m k) as (λ t. Conn) [ true ↦ f k | false ↦ k ]) s.conns (λ k. number_at m f k (is_conn m k) (number k)) (λ k i its. by k (is_conn m k) ((facts_of h).lined k i its));
})
  where
    by : (k : Conn) (b : Bool) → length k.line ≤ asks → length (elim b as (λ t. Conn) [ true ↦ f k | false ↦ k ]).line ≤ asks
    by k true le = subst (λ (ns : List ℕ). length ns ≤ asks) (sym (line k)) le
    by k false le = le

-- ---- a head came

module _ (n most asks : ℕ) where
  abbrev w : Walk (InMark n most asks)
  w = mark_walk n most asks

  empty_mark : (k : Conn) (e : Exchange) (a : Answer) (s : State) → Holds (InMark n most asks) s → Holds (InMark n most asks) (end_if_empty k e a s)
  unfolding end_if_empty
  empty_mark k e a s h = by_outcome (body_of a.rule []).outcome (λ rest. finish-keeps w k e a s h) h h

  begun_mark : (k : Conn) (e : Exchange) (head : Response) (rule : BodyRule) (s : State) → Holds (InMark n most asks) s → Holds (InMark n most asks) (begin_answer k e head rule s)
  unfolding begin_answer
  begun_mark k e head rule s h = empty_mark k e (answer_with e head rule) _ (by_aim-keeps w e head rule _ (set_mark k.number (answered_by (answer_with e head rule)) s (λ j. refl) (λ j. refl) h))

  answered_mark : (k : Conn) (e : Exchange) (head : Response) (s : State) → Holds (InMark n most asks) s → Holds (InMark n most asks) (answer_for k e head s)
  unfolding answer_for
  answered_mark k e head s h = when (is_wrong_head e head) (bad_head-keeps w k s h) (by_result (rule_of (asks_head e) head.status head.fields) (λ rule. begun_mark k e head rule s h) (λ fault. bad_head-keeps w k s h))

  pub head_mark : (k : Conn) (head : Response) (s : State) → Holds (InMark n most asks) s → Holds (InMark n most asks) (head_came k head s)
  unfolding head_came
  head_mark k head s h = each_of (front_of_line s k) (close_conn-keeps w false k s h) (λ e. answered_mark k e head _ (bring_row-keeps w e head s h))

-- ---- data join

abbrev with_data : ℕ → Bytes → ℕ
with_data most bytes = most + (length bytes / 4096 + 2)

more_mark : {n most asks : ℕ} (bytes : Bytes) (s : State) → Holds (InMark n most asks) s → Holds (InMark n (with_data most bytes) asks) s
more_mark bytes s h = holds (record { few = (let le = (facts_of h).few in omega (arith, le)); lined = (facts_of h).lined })

join_mark : {n most asks : ℕ} (b : Bound) (bytes : Bytes) (s : State) → Holds (InMark n most asks) s → Holds (InMark n (with_data most bytes) asks) (join b bytes s)
unfolding join note_use
join_mark {n} {most} {asks} b bytes s h =
    each_of (joined_one b bytes s) (more_mark bytes s h) (λ x. holds (record { few = (let le = (facts_of h).few in let more = joined_few x.id (extent_of s x) b.next bytes s.chunks in omega (arith, le, more)); lined = (facts_of h).lined }))

bound_mark : {n most asks : ℕ} (e : Exchange) (bytes : Bytes) (s : State) → Holds (InMark n most asks) s → Holds (InMark n (with_data most bytes) asks) (join_bound e bytes s)
unfolding join_bound on_exchange
bound_mark e bytes s h = each_of (bound_of e) (more_mark bytes s h) (λ b. holds (facts_of (join_mark b bytes s h)))

own_mark : {n most asks : ℕ} (e : Exchange) (a : Answer) (at : ℕ) (bytes : Bytes) (s : State) → Holds (InMark n most asks) s → Holds (InMark n most asks) (note_own e a at bytes s)
unfolding note_own
own_mark e a at bytes s h = when (is_empty bytes) h (holds (facts_of h))

sent_mark : {n most asks : ℕ} (e : Exchange) (a : Answer) (at : ℕ) (bytes : Bytes) (s : State) → Holds (InMark n most asks) s → Holds (InMark n most asks) (note_sent e a at bytes s)
unfolding note_sent
sent_mark e a at bytes s h = by_aim_of e.aim h (own_mark e a at bytes s h) (λ v from to. own_mark e a at bytes s h)

data_mark : {n most asks : ℕ} (e : Exchange) (a : Answer) (at : ℕ) (bytes : Bytes) (s : State) → Holds (InMark n most asks) s → Holds (InMark n (with_data most bytes) asks) (deliver e a at bytes s)
unfolding deliver
data_mark {n} {most} {asks} e a at bytes s h = pour-keeps (mark_walk n (with_data most bytes) asks) e (poured bytes) _ (bound_mark e bytes _ (sent_mark e a at bytes s h))

-- ---- a response is whole, and its exchange out of the line

out_mark : {n most asks : ℕ} (m : ℕ) (s : State) → ((k : Conn) → IsIn k s.conns → k.number ≡ n → IsIn m k.line) → Holds (InMark n most asks) s → Holds (InMark n most (asks - 1)) (end_exchange m s)
unfolding end_exchange
out_mark {n} {most} {asks} m s here h = holds (record {
  few = (facts_of h).few;
  lined = lined_map n (asks - 1) (without_ask m) s.conns (λ k. refl) (λ k i its. let all = (facts_of h).lined k i its in let less = one_out m k.line (here k i its) in omega (arith, all, less));
})

over_mark : {n most asks : ℕ} (k : Conn) (e : Exchange) (a : Answer) (s : State) → ((j : Conn) → IsIn j s.conns → j.number ≡ n → IsIn e.number j.line) → Holds (InMark n most asks) s → Holds (InMark n most (asks - 1)) (finish k e a s)
unfolding finish
over_mark {n} {most} {asks} k e a s here h = when (may_go_on e a.head) done (close_this-keeps (mark_walk n most (asks - 1)) k.number _ done)
  where
    u : State
    u = skip_body e (pour e finished s)

    same_conns : u.conns ≡ s.conns
    same_conns = (skipped_beside e (pour e finished s)).conns ∙ (poured_beside e finished s).conns

    quiet : Holds (InMark n most asks) u
    quiet = skip_body-keeps (mark_walk n most asks) e (pour e finished s) (pour-keeps (mark_walk n most asks) e finished s h)

    done : Holds (InMark n most (asks - 1)) (on_conn k.number (rested a.head) (end_exchange e.number u))
    done = set_mark k.number (rested a.head) (end_exchange e.number u) (λ j. refl) (λ j. refl) (out_mark e.number u (λ j i its. here j (subst (λ (ks : List Conn). IsIn j ks) same_conns i) its) quiet)

-- ---- what is left has room

nothing : (bytes : Bytes) → length bytes ≤ 0 → bytes ≡ []
nothing [] le = refl
nothing (b ∷ bytes) le = absurd (omega (arith, le))

-- so many chunks, the bytes that are still to come and the line have room; or no bytes come any more
pub record HasSpace (n critical : ℕ) (s : State) (bytes : Bytes) : Type 0 where
  pub most : ℕ
  pub asks : ℕ
  pub held : Holds (InMark n most asks) s
  pub room : (4096 * most + length bytes + 8192 * asks ≤ 4096 * critical) ⊎ (bytes ≡ [])

pub head_space : (n critical : ℕ) (k : Conn) (head : Response) (s : State) (bytes rest : Bytes) → length rest < length bytes → HasSpace n critical s bytes → HasSpace n critical (head_came k head s) rest
head_space n critical k head s bytes rest fewer h = record { most = h.most; asks = h.asks; held = head_mark n h.most h.asks k head s h.held; room = by h.room }
  where
    by : (4096 * h.most + length bytes + 8192 * h.asks ≤ 4096 * critical) ⊎ (bytes ≡ []) → (4096 * h.most + length rest + 8192 * h.asks ≤ 4096 * critical) ⊎ (rest ≡ [])
    by (inl room) = inl (omega (arith, room, fewer))
    by (inr none) = absurd (let less : length rest < 0 = subst (λ (bs : Bytes). length rest < length bs) none fewer in omega (arith, less))

-- what is dropped before a head leaves it so
pub cleared_space : (n critical m : ℕ) (unread : Bytes) (s : State) (bytes : Bytes) → HasSpace n critical s bytes → HasSpace n critical (on_conn m (with_unread unread) s) bytes
cleared_space n critical m unread s bytes h = record { most = h.most; asks = h.asks; held = set_mark m (with_unread unread) s (λ j. refl) (λ j. refl) h.held; room = h.room }

-- what is new of a body, and what is left behind it, are no more than the bytes that came
pub data_weigh : (a : Answer) (bytes : Bytes) → GoesOn a → length (data_in a bytes) + left_by (body_of a.rule (a.raw ++ bytes)).outcome ≤ length bytes
data_weigh a bytes on =
    let grew : length (payload_of a) ≤ length (body_of a.rule (a.raw ++ bytes)).payload = payload-grows a.rule a.raw bytes in
    let all : length (body_of a.rule (a.raw ++ bytes)).payload + left_by (body_of a.rule (a.raw ++ bytes)).outcome ≤ length (payload_of a) + length bytes = body_weighs a.rule a.raw bytes on in
    omega (arith, length-drop (length (payload_of a)) (body_of a.rule (a.raw ++ bytes)).payload, grew, all)

-- data of a body, of the first of the line
module _ (n critical : ℕ) (k : Conn) (a : Answer) (e : Exchange) (others : List ℕ) (bytes : Bytes) (s : State) (here : IsIn k s.conns) (its : k.number ≡ n) (only : (j : Conn) → IsIn j s.conns → j.number ≡ n → j ≡ k) (line : k.line ≡ e.number ∷ others) (on : GoesOn a) (h : HasSpace n critical s bytes) where
  abbrev body : Body
  body = body_of a.rule (a.raw ++ bytes)

  abbrev at : ℕ
  at = length (payload_of a)

  abbrev fresh : Bytes
  fresh = data_in a bytes

  some : 1 ≤ h.asks
  some = let le : length (e.number ∷ others) ≤ h.asks = subst (λ (ns : List ℕ). length ns ≤ h.asks) line (lined_in h.held k here its) in omega (arith, le)

  weighs : length fresh + left_by body.outcome ≤ length bytes
  weighs = data_weigh a bytes on

  runs : 4096 * (length fresh / 4096) ≤ length fresh
  runs = mul-div-le (length fresh) 4096

  -- a chunk is free for them
  pub free : (id extent next : ℕ) → 4096 * h.most + length bytes + 8192 * h.asks ≤ 4096 * critical → length (joined id extent next fresh s.chunks) ≤ critical
  free id extent next room = let few = few_in h.held in let more = joined_few id extent next fresh s.chunks in let a1 = weighs in let a2 = some in let a3 = runs in omega (arith, room, few, more, a1, a2, a3)

  abbrev t : State
  t = deliver e a at fresh s

  came : Holds (InMark n (with_data h.most fresh) h.asks) t
  came = data_mark e a at fresh s h.held

  lined : (j : Conn) → IsIn j t.conns → j.number ≡ n → IsIn e.number j.line
  lined j i number = subst (λ (ns : List ℕ). IsIn e.number ns) (sym (ap (λ (c : Conn). c.line) (only j (subst (λ (ks : List Conn). IsIn j ks) (delivered_beside e a at fresh s).conns i) number) ∙ line)) (inl refl)

  pub body_space : HasSpace n critical (body_piece_of k a e bytes s).state (body_piece_of k a e bytes s).rest
  body_space = by body.outcome refl
    where
      by : (o : Outcome) → body.outcome ≡ o
          → (let p : Piece = elim o as (λ c. Piece) [
            | Going ↦ record { state = on_conn k.number (λ i. record i { answer = Some (record a { raw = a.raw ++ bytes }) }) t; rest = [] }
            | Bad ↦ record { state = bad_response k t; rest = [] }
            | Done after ↦ record { state = finish k e a t; rest = after }
          ] in HasSpace n critical p.state p.rest)
      by Going is = record { most = with_data h.most fresh; asks = h.asks; held = set_mark k.number (λ i. record i { answer = Some (record a { raw = a.raw ++ bytes }) }) t (λ j. refl) (λ j. refl) came; room = inr refl }
      by Bad is = record { most = with_data h.most fresh; asks = h.asks; held = bad_response-keeps (mark_walk n (with_data h.most fresh) h.asks) k t came; room = inr refl }
      by (Done after) is = record { most = with_data h.most fresh; asks = h.asks - 1; held = over_mark k e a t lined came; room = fits h.room }
        where
          left : length fresh + length after ≤ length bytes
          left = subst (λ (o : Outcome). length fresh + left_by o ≤ length bytes) is weighs

          fits : (4096 * h.most + length bytes + 8192 * h.asks ≤ 4096 * critical) ⊎ (bytes ≡ []) → (4096 * with_data h.most fresh + length after + 8192 * (h.asks - 1) ≤ 4096 * critical) ⊎ (after ≡ [])
          fits (inl room) = let a1 = left in let a2 = some in let a3 = runs in inl (omega (arith, room, a1, a2, a3))
          fits (inr none) = inr (nothing after (let le : length fresh + length after ≤ 0 = subst (λ (bs : Bytes). length fresh + length after ≤ length bs) none left in omega (arith, le)))
