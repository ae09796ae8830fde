-- As few chunks are used as a turn leaves, or eviction has begun: each step of the law keeps it, and so does what one read of an origin brings.
use Rattle.std.proofs.Common.{◌≡◌, ◌⊎◌, inl, inr, refl, ℕ, zero, suc, ◌-◌, ◌<◌, ◌≤◌, nat_le, min, Bool, true, false, ◌||◌, ◌++◌, List, [], drop, filter, length, Option, Some, None, Result, Ok, Err, le_trans, arith}
use Rattle.std.proofs.lemmas.Bool.Decides.{nat_tests}
use Rattle.pp_conf.specs.Conf.{Settings}
use Rattle.pp_framing.specs.Body.{Outcome, Done, Going, Bad}
use Rattle.pp_framing.specs.Framing.{rule_of}
use Rattle.pp_framing.specs.Rules.{body_of}
use Rattle.pp_framing.specs.declared.body.BodyRule.{BodyRule}
use Rattle.pp_framing.specs.declared.framing.ResponseFault.{ResponseFault}
use Rattle.pp_head.specs.Read.{Read, Whole, TooLong, Bad as NoHead, More}
use Rattle.pp_head.specs.Response.{Response, response_at}
use Rattle.pp_pipe.specs.Front.{is_interim}
use Rattle.pp_text.specs.Bytes.{is_empty}
use Rattle.pp_law.specs.Chunks.{joined, note_use, put_chunk, trigger}
use Rattle.pp_law.specs.Closing.{forsake, leave}
use Rattle.pp_law.specs.Connections.{close_conn, conn, front_of_line, on_conn, on_exchange, put_on, unplaced}
use Rattle.pp_law.specs.Deciding.{add_exchange, begin_exchange}
use Rattle.pp_law.specs.Lists.{Bytes}
use Rattle.pp_law.specs.OwnHeads.{is_wrong_head, join, joined_one, join_bound, moved_on, note_own, note_sent}
use Rattle.pp_law.specs.Passing.{poured}
use Rattle.pp_law.specs.Responses.{Piece, answer_for, answer_with, answered_by, asks_head, bad_head, bad_response, begin_answer, body_piece, body_piece_of, deliver, end_if_empty, finish, got, head_came, head_piece, is_early, next_piece, payload_of, with_unread}
use Rattle.pp_law.specs.Stages.{bound_of}
use Rattle.pp_law.specs.State.{State, Answer, Bound, Chunk, Conn, Exchange, Phase}
use Rattle.pp_law.specs.Table.{extent_of}
use Rattle.pp_laws_bounds.proofs.Counts.{length-filter}
use Rattle.pp_laws_pool.proofs.ChunkLists.{used_length}
use Rattle.pp_laws_pool.proofs.PoolTurns.{is_busy}
use Rattle.pp_laws_pool.proofs.View.{Begins, Holds, Places, Uses, View, Walk, facts_of, holds, view}
use Rattle.pp_laws_pool.proofs.WalkCases.{by_aim_of, each_of, when}
use Rattle.pp_laws_pool.proofs.WalkClients.{pour-keeps}
use Rattle.pp_laws_pool.proofs.WalkClosings.{close_conn-keeps}
use Rattle.pp_laws_pool.proofs.WalkHeads.{bring_row-keeps, by_aim-keeps}
use Rattle.pp_laws_pool.proofs.WalkPieces.{bad_head-keeps, bad_response-keeps, finish-keeps}

-- fewer than the trigger says, or no more than the floor does
abbrev pub IsEnough : Settings → ℕ → Type 0
IsEnough c n = (n < min c.high (c.critical - 31)) ⊎ (n ≤ min c.low (c.critical - 32))

-- as settings that may be are (`least_of` of pp_conf)
abbrev pub AreHigh : Settings → Type 0
AreHigh c = (512 ≤ c.high) × (512 ≤ c.critical)

-- or eviction has begun, amid the event and where chunks leave behind it
abbrev pub Enough : Phase → View → Type 0
Enough p v = (v.phase ≡ p) × (AreHigh v.settings × (((is_busy p ≡ true) × (v.is_evicting ≡ true)) ⊎ IsEnough v.settings (length v.chunks)))

pub enough_fewer : (c : Settings) (m n : ℕ) → m ≤ n → IsEnough c n → IsEnough c m
enough_fewer c m n less (inl below) = inl (under m n (min c.high (c.critical - 31)) less below)
  where
    under : (a b d : ℕ) → a ≤ b → b < d → a < d
    under a b d one two = omega (arith, one, two)
enough_fewer c m n less (inr few) = inr (le_trans less few)

by_fewer : (p : Phase) (v : View) (cs : List Chunk) → length cs ≤ length v.chunks → Enough p v → Enough p (record v { chunks = cs })
by_fewer p v cs less h = (h.0, (h.1.0, by h.1.1))
  where
    by : ((is_busy p ≡ true) × (v.is_evicting ≡ true)) ⊎ IsEnough v.settings (length v.chunks) → ((is_busy p ≡ true) × (v.is_evicting ≡ true)) ⊎ IsEnough v.settings (length cs)
    by (inl begun) = inl begun
    by (inr few) = inr (enough_fewer v.settings (length cs) (length v.chunks) less few)

placed_again : (p : Phase) (n : ℕ) (s : State) → Enough p (view s) → Enough p (view (on_exchange n unplaced s))
unfolding on_exchange
placed_again p n s h = h

pub enough_walk : (p : Phase) → Walk (Enough p)
enough_walk p = record {
  clients = λ f number v h. h;
  asks = λ f same v h. h;
  left = λ test v h. h;
  over = λ test v h. h;
  conns = λ f lesser v h. h;
  chunks = λ test v h. by_fewer p v (filter test v.chunks) (length-filter test v.chunks) h;
  again = λ n s may h. placed_again p n s h;
}

pub enough_uses : (p : Phase) → Uses (Enough p)
enough_uses p id i c v found h = by_fewer p v (put_chunk id i c.bytes v.chunks) (used_length id i c.bytes c v.chunks found) h

pub enough_places : (p : Phase) → Places (Enough p)
unfolding put_on on_conn on_exchange
enough_places p n k s h = h

pub enough_begins : (p : Phase) → Begins (Enough p)
unfolding begin_exchange add_exchange leave forsake
enough_begins p e s new h = h

-- ---- bytes join

pub enough_noted : (p : Phase) (cs : List Chunk) (s : State) → is_busy p ≡ true → Holds (Enough p) s → Holds (Enough p) (note_use (record s { chunks = cs }))
unfolding note_use
enough_noted p cs s busy h = holds ((facts_of h).0, ((facts_of h).1.0, by (nat_le (trigger s) (length cs)) refl))
  where
    begun : (d : Bool) → (d || true) ≡ true
    begun true = refl
    begun false = refl

    below : (m n : ℕ) → nat_le m n ≡ false → n < m
    below m n isnt = grind (arith, nat_tests)

    by : (t : Bool) → nat_le (trigger s) (length cs) ≡ t → ((is_busy p ≡ true) × ((s.is_evicting || t) ≡ true)) ⊎ IsEnough s.settings (length cs)
    by true is = inl (busy, begun s.is_evicting)
    by false is = inr (inl (below (trigger s) (length cs) is))

module _ (p : Phase) (busy : is_busy p ≡ true) where
  w : Walk (Enough p)
  w = enough_walk p

  conn_so : (n : ℕ) (f : Conn → Conn) (s : State) → Holds (Enough p) s → Holds (Enough p) (on_conn n f s)
  unfolding on_conn
  conn_so n f s h = holds (facts_of h)

  exchange_so : (n : ℕ) (f : Exchange → Exchange) (s : State) → Holds (Enough p) s → Holds (Enough p) (on_exchange n f s)
  unfolding on_exchange
  exchange_so n f s h = holds (facts_of h)

  join_so : (b : Bound) (bytes : Bytes) (s : State) → Holds (Enough p) s → Holds (Enough p) (join b bytes s)
  unfolding join
  join_so b bytes s h = each_of (joined_one b bytes s) h (λ x. enough_noted p (joined x.id (extent_of s x) b.next bytes s.chunks) s busy h)

  join_bound_so : (e : Exchange) (bytes : Bytes) (s : State) → Holds (Enough p) s → Holds (Enough p) (join_bound e bytes s)
  unfolding join_bound
  join_bound_so e bytes s h = each_of (bound_of e) h (λ b. exchange_so e.number (moved_on (length bytes)) _ (join_so b bytes s h))

  note_own_so : (e : Exchange) (a : Answer) (at : ℕ) (bytes : Bytes) (s : State) → Holds (Enough p) s → Holds (Enough p) (note_own e a at bytes s)
  unfolding note_own
  note_own_so e a at bytes s h = when (is_empty bytes) h (holds (facts_of h))

  note_sent_so : (e : Exchange) (a : Answer) (at : ℕ) (bytes : Bytes) (s : State) → Holds (Enough p) s → Holds (Enough p) (note_sent e a at bytes s)
  unfolding note_sent
  note_sent_so e a at bytes s h = by_aim_of e.aim h (note_own_so e a at bytes s h) (λ v from to. note_own_so e a at bytes s h)

  deliver_so : (e : Exchange) (a : Answer) (at : ℕ) (bytes : Bytes) (s : State) → Holds (Enough p) s → Holds (Enough p) (deliver e a at bytes s)
  unfolding deliver
  deliver_so e a at bytes s h = pour-keeps w e (poured bytes) _ (join_bound_so e bytes _ (note_sent_so e a at bytes s h))

  -- ---- heads

  end_if_empty_so : (k : Conn) (e : Exchange) (a : Answer) (s : State) → Holds (Enough p) s → Holds (Enough p) (end_if_empty k e a s)
  unfolding end_if_empty
  end_if_empty_so k e a s h = by (body_of a.rule []).outcome
    where
      by : (o : Outcome) → Holds (Enough p) (elim o as (λ t. State) [ Done rest ↦ finish k e a s | Going ↦ s | Bad ↦ s ])
      by (Done rest) = finish-keeps w k e a s h
      by Going = h
      by Bad = h

  begin_answer_so : (k : Conn) (e : Exchange) (head : Response) (rule : BodyRule) (s : State) → Holds (Enough p) s → Holds (Enough p) (begin_answer k e head rule s)
  unfolding begin_answer
  begin_answer_so k e head rule s h = end_if_empty_so k e (answer_with e head rule) _ (by_aim-keeps w e head rule _ (conn_so k.number (answered_by (answer_with e head rule)) s h))

  answer_for_so : (k : Conn) (e : Exchange) (head : Response) (s : State) → Holds (Enough p) s → Holds (Enough p) (answer_for k e head s)
  unfolding answer_for
  answer_for_so k e head s h = when (is_wrong_head e head) (bad_head-keeps w k s h) (by (rule_of (asks_head e) head.status head.fields))
    where
      by : (read : Result BodyRule ResponseFault) → Holds (Enough p) (elim read as (λ t. State) [ Ok rule ↦ begin_answer k e head rule s | Err fault ↦ bad_head k s ])
      by (Ok rule) = begin_answer_so k e head rule s h
      by (Err fault) = bad_head-keeps w k s h

  head_came_so : (k : Conn) (head : Response) (s : State) → Holds (Enough p) s → Holds (Enough p) (head_came k head s)
  unfolding head_came
  head_came_so k head s h = each_of (front_of_line s k) (close_conn-keeps w false k s h) (λ e. answer_for_so k e head _ (bring_row-keeps w e head s h))

  -- ---- pieces

  when_so : (b : Bool) (x y : Piece) → Holds (Enough p) x.state → Holds (Enough p) y.state → Holds (Enough p) (elim b as (λ t. Piece) [ true ↦ x | false ↦ y ]).state
  when_so true x y one two = one
  when_so false x y one two = two

  head_piece_so : (k : Conn) (bytes : Bytes) (s : State) → Holds (Enough p) s → Holds (Enough p) (head_piece k bytes s).state
  head_piece_so k bytes s h = when_so (is_early s k) _ _ (close_conn-keeps w true k s h) (by (response_at (k.unread ++ bytes)))
    where
      by : (read : Read Response) → Holds (Enough p) (elim read as (λ t. Piece) [
        | More ↦ record { state = on_conn k.number (with_unread (k.unread ++ bytes)) s; rest = [] }
        | TooLong ↦ record { state = bad_head k s; rest = [] }
        | NoHead ↦ record { state = bad_head k s; rest = [] }
        | Whole head ↦ elim (is_interim head.status) as (λ t. Piece) [
          | true ↦ record { state = on_conn k.number (with_unread []) s; rest = drop head.length (k.unread ++ bytes) }
          | false ↦ record { state = head_came k head s; rest = drop head.length (k.unread ++ bytes) }
        ]
      ]).state
      by More = conn_so k.number (with_unread (k.unread ++ bytes)) s h
      by TooLong = bad_head-keeps w k s h
      by NoHead = bad_head-keeps w k s h
      by (Whole head) = when_so (is_interim head.status) _ _ (conn_so k.number (with_unread []) s h) (head_came_so k head s h)

  body_piece_of_so : (k : Conn) (a : Answer) (e : Exchange) (bytes : Bytes) (s : State) → Holds (Enough p) s → Holds (Enough p) (body_piece_of k a e bytes s).state
  body_piece_of_so k a e bytes s h = by (body_of a.rule (a.raw ++ bytes)).outcome
    where
      then : State
      then = deliver e a (length (payload_of a)) (drop (length (payload_of a)) (body_of a.rule (a.raw ++ bytes)).payload) s

      came : Holds (Enough p) then
      came = deliver_so e a (length (payload_of a)) (drop (length (payload_of a)) (body_of a.rule (a.raw ++ bytes)).payload) s h

      by : (o : Outcome) → Holds (Enough p) (elim o as (λ t. Piece) [
        | Going ↦ record { state = on_conn k.number (λ i. record i { answer = Some (record a { raw = a.raw ++ bytes }) }) then; rest = [] }
        | Bad ↦ record { state = bad_response k then; rest = [] }
        | Done after ↦ record { state = finish k e a then; rest = after }
      ]).state
      by Going = conn_so k.number (λ i. record i { answer = Some (record a { raw = a.raw ++ bytes }) }) then came
      by Bad = bad_response-keeps w k then came
      by (Done after) = finish-keeps w k e a then came

  body_piece_so : (k : Conn) (a : Answer) (bytes : Bytes) (s : State) → Holds (Enough p) s → Holds (Enough p) (body_piece k a bytes s).state
  body_piece_so k a bytes s h = by (front_of_line s k)
    where
      by : (o : Option Exchange) → Holds (Enough p) (elim o as (λ t. Piece) [ None ↦ record { state = close_conn false k s; rest = [] } | Some e ↦ body_piece_of k a e bytes s ]).state
      by None = close_conn-keeps w false k s h
      by (Some e) = body_piece_of_so k a e bytes s h

  next_piece_so : (k : Conn) (bytes : Bytes) (s : State) → Holds (Enough p) s → Holds (Enough p) (next_piece k bytes s).state
  next_piece_so k bytes s h = by k.answer
    where
      by : (o : Option Answer) → Holds (Enough p) (elim o as (λ t. Piece) [ Some a ↦ body_piece k a bytes s | None ↦ head_piece k bytes s ]).state
      by None = head_piece_so k bytes s h
      by (Some a) = body_piece_so k a bytes s h

  pub got_enough : (more n : ℕ) (bytes : Bytes) (s : State) → Holds (Enough p) s → Holds (Enough p) (got more n bytes s)
  unfolding got
  got_enough zero n bytes s h = h
  got_enough (suc more) n bytes s h = by (conn s n) (λ k. got_enough more n (next_piece k bytes s).rest (next_piece k bytes s).state (next_piece_so k bytes s h))
    where
      at : (b : Bool) (k : Conn) → Holds (Enough p) (got more n (next_piece k bytes s).rest (next_piece k bytes s).state) → Holds (Enough p) (elim b as (λ t. State) [ true ↦ s | false ↦ got more n (next_piece k bytes s).rest (next_piece k bytes s).state ])
      at true k rest = h
      at false k rest = rest

      by : (o : Option Conn) → ((k : Conn) → Holds (Enough p) (got more n (next_piece k bytes s).rest (next_piece k bytes s).state))
          → Holds (Enough p) (elim o as (λ t. State) [ None ↦ s | Some k ↦ elim (k.is_closing || is_empty bytes) as (λ t. State) [ true ↦ s | false ↦ got more n (next_piece k bytes s).rest (next_piece k bytes s).state ] ])
      by None rest = h
      by (Some k) rest = at (k.is_closing || is_empty bytes) k (rest k)
