-- What comes at each moment of a read can be counted, with what came before: behind a head nothing came, and a piece of a body has no more bytes
-- than were left.
use Rattle.std.proofs.Common.{◌≡◌, ◌⊎◌, inl, inr, refl, sym, subst, ap, ◌∙◌, ℕ, zero, suc, ◌+◌, ◌-◌, ◌^◌, ◌≤◌, ◌<◌, ◌==◌, Bool, true, false, length, List, [], ◌∷◌, ◌++◌, Option, Some, None, Ok, Err, Result, le_refl, length-append, arith}
use Rattle.pp_cache_law.proofs.Finds.{find_passes}
use Rattle.pp_cache_law.proofs.Numbers.{is_same}
use Rattle.pp_framing.specs.Body.{Outcome, Done, Going, Bad}
use Rattle.pp_framing.specs.Framing.{rule_of}
use Rattle.pp_framing.specs.Rules.{body_of}
use Rattle.pp_framing.specs.declared.body.BodyRule.{BodyRule}
use Rattle.pp_framing.specs.declared.framing.ResponseFault.{ResponseFault}
use Rattle.pp_head.specs.Response.{Response}
use Rattle.pp_law.specs.Connections.{close_conn, conn, front_of_line, is_conn, lose_attempt, on_conn}
use Rattle.pp_law.specs.Lists.{Bytes, change}
use Rattle.pp_law.specs.OwnHeads.{is_wrong_head}
use Rattle.pp_law.specs.Responses.{Piece, answer_for, answer_with, answered_by, asks_head, bad_head, bad_response, begin_answer, body_piece, body_piece_of, bring_row, by_aim, end_if_empty, finish, head_came}
use Rattle.pp_law.specs.State.{State, Answer, Conn, Exchange}
use Rattle.pp_laws_pool.proofs.View.{Holds, Walk, facts_of, holds}
use Rattle.pp_laws_pool.proofs.WalkCases.{by_outcome, each_of, when}
use Rattle.pp_laws_pool.proofs.WalkHeads.{by_aim-keeps}
use Rattle.pp_origins.specs.Gots.{Both}
use Rattle.pp_reads_law.specs.Brings.{IsBehindHead, IsBehindPiece, IsMoment}
use Rattle.pp_stays_law.proofs.Came.{AllConns}
use Rattle.pp_store.specs.Kept.{KeptMap}
use Rattle.pp_given_law.proofs.CameFew.{payload-within, rest-within}
use Rattle.pp_given_law.proofs.CountedLaws.{IsLeft, IsUnanswered, OnConns, bad_none, closed, finished_none, walk}
use Rattle.pp_given_law.proofs.CountedPieces.{conn_has}
use Rattle.pp_given_law.specs.Came.{HasRoomToCount}
use Rattle.pp_given_law.specs.Pieces.{CanBeCounted}

-- ---- of the response that comes on a connection so much came, at most

abbrev IsShort : ℕ → ℕ → Conn → Type 0
IsShort n m j = (j.number == n) ≡ true → (a : Answer) → j.answer ≡ Some a → length a.raw ≤ m

none_some : {A : Type 0} (a : Answer) → None ≡ Some a → A
none_some a both = absurd (cc both)

short_left : (n m : ℕ) → IsLeft (IsShort n m)
short_left n m j k less its is a answer = by less.answer
  where
    by : (j.answer ≡ k.answer) ⊎ (j.answer ≡ None) → length a.raw ≤ m
    by (inl same) = its (ap (λ (i : ℕ). i == n) (sym less.number) ∙ is) a (sym same ∙ answer)
    by (inr none) = none_some a (sym none ∙ answer)

all_none : (n m : ℕ) (ks : List Conn) → AllConns (IsUnanswered n) ks → AllConns (IsShort n m) ks
all_none n m [] all = tt
all_none n m (k ∷ ks) all = ((λ is a answer. none_some a (sym (all.0 is) ∙ answer)), all_none n m ks all.1)

no : {A : Type 0} → true ≡ false → A
no both = absurd (cc both)

-- each with this number is changed
set_own : (n m : ℕ) (f : Conn → Conn) (ks : List Conn) → ((k : Conn) (a : Answer) → (f k).answer ≡ Some a → length a.raw ≤ m) → AllConns (IsShort n m) (change (is_conn n) f ks)
set_own n m f [] short = tt
set_own n m f (k ∷ ks) short = (by (is_conn n k) refl, set_own n m f ks short)
  where
    by : (b : Bool) → is_conn n k ≡ b → IsShort n m (elim b as (λ d. Conn) [ true ↦ f k | false ↦ k ])
    by true is = λ its a answer. short k a answer
    by false isnt = λ its. no (sym its ∙ isnt)

module _ (m : ℕ) (k : Conn) where
  abbrev P : State → Type 0
  P s = Holds (OnConns (IsShort k.number m)) s

  abbrev w : Walk (OnConns (IsShort k.number m))
  w = walk (IsShort k.number m) (short_left k.number m)

  none_short : (s : State) → Holds (OnConns (IsUnanswered k.number)) s → P s
  none_short s h = holds (all_none k.number m s.conns (facts_of h))

  sets_short : (f : Conn → Conn) (s : State) → ((j : Conn) (a : Answer) → (f j).answer ≡ Some a → length a.raw ≤ m) → P (on_conn k.number f s)
  unfolding on_conn
  sets_short f s short = holds (set_own k.number m f s.conns short)

  -- ---- behind a head

  closed_short : (counts : Bool) (s : State) → P (close_conn counts k s)
  closed_short counts s = none_short (close_conn counts k s) (closed k counts s)

  bad_short : (s : State) → P (bad_response k s)
  bad_short s = none_short (bad_response k s) (bad_none k s)

  bad_head_short : (s : State) → P (bad_head k s)
  unfolding bad_head
  bad_head_short s = when k.has_brought (each_of (front_of_line s k) (closed_short false s) (λ e. closed_short false (lose_attempt e s))) (bad_short s)

  begins_short : (e : Exchange) (head : Response) (rule : BodyRule) (s : State) → P (begin_answer k e head rule s)
  unfolding begin_answer end_if_empty
  begins_short e head rule s = by_outcome (body_of rule []).outcome (λ rest. none_short _ (finished_none k e (answer_with e head rule) _)) begun begun
    where
      answered : P (on_conn k.number (answered_by (answer_with e head rule)) s)
      answered = sets_short (answered_by (answer_with e head rule)) s (λ j a answer. short a answer)
        where
          nothing : (a : Answer) → Some (answer_with e head rule) ≡ Some a → a.raw ≡ []
          nothing a same = let its : answer_with e head rule ≡ a = cc same in ap (λ (b : Answer). b.raw) (sym its)

          short : (a : Answer) → Some (answer_with e head rule) ≡ Some a → length a.raw ≤ m
          short a same = let none : length a.raw ≡ 0 = ap (λ (bs : Bytes). length bs) (nothing a same) in omega (arith, none)

      begun : P (by_aim e head rule (on_conn k.number (answered_by (answer_with e head rule)) s))
      begun = by_aim-keeps w e head rule _ answered

  answers_short : (e : Exchange) (head : Response) (s : State) → P (answer_for k e head s)
  unfolding answer_for
  answers_short e head s = by (is_wrong_head e head) (rule_of (asks_head e) head.status head.fields)
    where
      by : (b : Bool) (r : Result BodyRule ResponseFault) → P (elim b as (λ t. State) [ true ↦ bad_head k s | false ↦ elim r as (λ t. State) [ Ok rule ↦ begin_answer k e head rule s | Err fault ↦ bad_head k s ] ])
      by true r = bad_head_short s
      by false (Ok rule) = begins_short e head rule s
      by false (Err fault) = bad_head_short s

  pub head_short : (head : Response) (s : State) → AllConns (IsShort k.number m) (head_came k head s).conns
  unfolding head_came
  head_short head s = facts_of {P = OnConns (IsShort k.number m)} {s = head_came k head s} (each_of (front_of_line s k) (closed_short false s) (λ e. answers_short e head (bring_row e head s)))

-- ---- behind a piece of a body

-- it leaves no more bytes than these
record IsPieceOf (k : Conn) (a : Answer) (bytes : Bytes) (p : Piece) : Type 0 where
  few : length p.rest ≤ length a.raw + length bytes
  short : (b : Answer) (j : Conn) → conn p.state k.number ≡ Some j → j.answer ≡ Some b → length b.raw + length p.rest ≤ length a.raw + length bytes

nothing_left : (k : Conn) (a : Answer) (bytes rest : Bytes) (s : State) → length rest ≤ length a.raw + length bytes → Holds (OnConns (IsUnanswered k.number)) s → IsPieceOf k a bytes (record { state = s; rest = rest })
nothing_left k a bytes rest s few h = record {
  few = few;
  short = λ b j there answer. let its : IsUnanswered k.number j × ((j.number == k.number) ≡ true) = conn_has (IsUnanswered k.number) k.number s.conns j there (facts_of h) in none_some b (sym (its.0 its.1) ∙ answer);
}

piece_of : (k : Conn) (a : Answer) (bytes : Bytes) (s : State) → IsPieceOf k a bytes (body_piece k a bytes s)
piece_of k a bytes s = by (front_of_line s k)
  where
    text : Bytes
    text = a.raw ++ bytes

    long : length text ≡ length a.raw + length bytes
    long = length-append a.raw bytes

    none : 0 ≤ length a.raw + length bytes
    none = omega arith

    longer : Conn → Conn
    longer i = record i { answer = Some (record a { raw = text }) }

    goes_on : (u : State) → IsPieceOf k a bytes (record { state = on_conn k.number longer u; rest = [] })
    goes_on u = record {
      few = none;
      short = λ b j there answer.
          let all : AllConns (IsShort k.number (length text)) (on_conn k.number longer u).conns = facts_of (sets_short (length text) k longer u (λ i c same. text_of c same)) in
          let its : IsShort k.number (length text) j × ((j.number == k.number) ≡ true) = conn_has (IsShort k.number (length text)) k.number (on_conn k.number longer u).conns j there all in
          let le : length b.raw ≤ length text = its.0 its.1 b answer in
          omega (arith, le, long);
    }
      where
        text_of : (c : Answer) → Some (record a { raw = text }) ≡ Some c → length c.raw ≤ length text
        text_of c same = let its : record a { raw = text } ≡ c = cc same in subst (λ (d : Answer). length d.raw ≤ length text) its (le_refl (length text))

    follows : (rest : Bytes) → (body_of a.rule text).outcome ≡ Done rest → length rest ≤ length a.raw + length bytes
    follows rest is =
        let le : length rest ≤ length text = rest-within a.rule text rest is in
        omega (arith, le, long)

    at : (e : Exchange) (o : Outcome) → (body_of a.rule text).outcome ≡ o → (u : State) → IsPieceOf k a bytes (elim o as (λ c. Piece) [
      | Going ↦ record { state = on_conn k.number longer u; rest = [] }
      | Bad ↦ record { state = bad_response k u; rest = [] }
      | Done rest ↦ record { state = finish k e a u; rest = rest }
    ])
    at e Going is u = goes_on u
    at e Bad is u = nothing_left k a bytes [] (bad_response k u) none (bad_none k u)
    at e (Done rest) is u = nothing_left k a bytes rest (finish k e a u) (follows rest is) (finished_none k e a u)

    by : (o : Option Exchange) → IsPieceOf k a bytes (elim o as (λ c. Piece) [ None ↦ record { state = close_conn false k s; rest = [] } | Some e ↦ body_piece_of k a e bytes s ])
    by None = nothing_left k a bytes [] (close_conn false k s) none (closed k false s)
    by (Some e) = at e (body_of a.rule text).outcome refl _

-- ---- from one moment to the next

module _ (name : Bytes) (shelf : KeptMap) (n : ℕ) where
  behind_head : (x next : Both) (s t : State) (bytes rest : Bytes) → IsBehindHead name shelf n x s bytes next t rest → HasRoomToCount s n bytes → HasRoomToCount t n rest
  behind_head x next s t bytes rest it has = record {
    few = fewer;
    behind = λ k a there answer.
        let its : IsShort number 0 k × ((k.number == number) ≡ true) = conn_has (IsShort number 0) number t.conns k (subst (λ (i : ℕ). conn t i ≡ Some k) (sym is) there) (subst (λ (u : State). AllConns (IsShort number 0) u.conns) (sym it.state) (head_short 0 it.there.before it.it.head it.there.then)) in
        let none : length a.raw ≤ 0 = its.0 its.1 a answer in
        omega (arith, none, fewer);
  }
    where
      number : ℕ
      number = it.there.before.number

      is : number ≡ n
      is = is_same number n (find_passes (is_conn n) it.there.then.conns it.there.before it.there.due.due.on.there)

      fewer : length rest ≤ 2 ^ 64 - 1
      fewer =
          let same : length rest ≡ length it.it.rest = ap (λ (bs : Bytes). length bs) it.left in
          let less : length it.it.rest < length bytes = it.it.fewer in
          let few : length bytes ≤ 2 ^ 64 - 1 = has.few in
          omega (arith, same, less, few)

  behind_piece : (x next : Both) (s t : State) (bytes rest : Bytes) → IsBehindPiece name shelf n x s bytes next t rest → HasRoomToCount s n bytes → HasRoomToCount t n rest
  behind_piece x next s t bytes rest it has = record {
    few = let le : length p.rest ≤ length it.answer.raw + length bytes = its.few in let same : length rest ≡ length p.rest = ap (λ (bs : Bytes). length bs) it.left in omega (arith, le, same, most);
    behind = λ j b there answer.
        let le : length b.raw + length p.rest ≤ length it.answer.raw + length bytes = its.short b j (subst (λ (u : State). conn u it.conn.number ≡ Some j) it.state (subst (λ (i : ℕ). conn t i ≡ Some j) (sym is) there)) answer in
        let same : length rest ≡ length p.rest = ap (λ (bs : Bytes). length bs) it.left in
        omega (arith, le, same, most);
  }
    where
      p : Piece
      p = body_piece it.conn it.answer bytes s

      its : IsPieceOf it.conn it.answer bytes p
      its = piece_of it.conn it.answer bytes s

      is : it.conn.number ≡ n
      is = is_same it.conn.number n (find_passes (is_conn n) s.conns it.conn it.within.on.may.there)

      most : length it.answer.raw + length bytes ≤ 2 ^ 64 - 1
      most = has.behind it.conn it.answer it.within.on.may.there it.within.on.answer

  -- so it is counted
  pub can_be_counted : (x next : Both) (s t : State) (bytes rest : Bytes) (it : IsBehindPiece name shelf n x s bytes next t rest) → HasRoomToCount s n bytes → CanBeCounted it.exchange (length (body_of it.answer.rule (it.answer.raw ++ bytes)).payload)
  can_be_counted x next s t bytes rest it has drops =
      let within : length (body_of it.answer.rule (it.answer.raw ++ bytes)).payload ≤ length (it.answer.raw ++ bytes) = payload-within it.answer.rule (it.answer.raw ++ bytes) in
      let most : length it.answer.raw + length bytes ≤ 2 ^ 64 - 1 = has.behind it.conn it.answer it.within.on.may.there it.within.on.answer in
      omega (arith, within, most, length-append it.answer.raw bytes)

  module _ (begins : Both) (from : State) (all : Bytes) where
    next_room : (x w : Both) (s u : State) (bytes more : Bytes) → HasRoomToCount u n more → IsBehindHead name shelf n w u more x s bytes ⊎ IsBehindPiece name shelf n w u more x s bytes → HasRoomToCount s n bytes
    next_room x w s u bytes more has (inl it) = behind_head w x u s more bytes it has
    next_room x w s u bytes more has (inr it) = behind_piece w x u s more bytes it has

    pub room_at : (pieces : ℕ) (x : Both) (s : State) (bytes : Bytes) → HasRoomToCount from n all → IsMoment pieces name shelf n begins from all x s bytes → HasRoomToCount s n bytes
    unfolding IsMoment
    room_at zero x s bytes has is = subst (λ (bs : Bytes). HasRoomToCount s n bs) (sym is.2) (subst (λ (t : State). HasRoomToCount t n all) (sym is.1) has)
    room_at (suc pieces) x s bytes has is = next_room x is.0 s is.1 bytes is.2 (room_at pieces is.0 is.1 is.2 has is.3) is.4
