-- What a read of an origin leaves of a line whose exchange goes alone: no other comes beside it (RFC 2616, section 8.1.2.2).
use Rattle.std.proofs.Common.{◌≡◌, ◌≤◌, ◌⊎◌, ◌+◌, inl, inr, refl, sym, subst, ap, ◌∙◌, ℕ, Bool, true, false, find, length, map, List, [], Option, Some, None, le_refl, le_trans}
use Rattle.pp_framing.specs.Body.{Outcome, Done, Going, Bad as NoBody}
use Rattle.pp_framing.specs.Rules.{body_of}
use Rattle.pp_framing.specs.declared.body.BodyRule.{BodyRule}
use Rattle.pp_head.specs.Response.{Response}
use Rattle.pp_law.specs.Chunks.{note_use}
use Rattle.pp_law.specs.Closing.{left_alone}
use Rattle.pp_law.specs.Connections.{conn, front_of_line, is_conn, is_exchange, on_conn, on_exchange, unplaced}
use Rattle.pp_law.specs.Lists.{Bytes}
use Rattle.pp_law.specs.OwnHeads.{is_wrong_head, join, join_bound, joined_one, moved_on, note_own, note_sent}
use Rattle.pp_law.specs.Passing.{poured}
use Rattle.pp_law.specs.Requests.{goes_alone}
use Rattle.pp_law.specs.Responses.{answer_with, answered_by, bad_head, bad_response, bring_row, deliver, end_if_empty, finish, payload_of, with_unread}
use Rattle.pp_law.specs.Stages.{bound_of}
use Rattle.pp_law.specs.State.{State, Answer, Bound, Conn, Exchange, Joining}
use Rattle.pp_laws.proofs.Lists.{Changed, in_change, in_filter, in_find, in_map, other, same}
use Rattle.pp_laws.specs.Runs.{IsIn}
use Rattle.pp_laws_pool.proofs.PoolFacts.{find_map}
use Rattle.pp_laws_pool.proofs.PoolGot.{same_in}
use Rattle.pp_laws_pool.proofs.View.{Holds, SameAsk, View, Walk, facts_of, holds, view}
use Rattle.pp_laws_pool.proofs.WalkCases.{by_aim_of, each_of, when}
use Rattle.pp_laws_pool.proofs.WalkClients.{pour-keeps}
use Rattle.pp_laws_pool.proofs.WalkExchanges.{on_exchange-keeps, same_ask}
use Rattle.pp_laws_pool.proofs.WalkHeads.{bring_row-keeps, by_aim-keeps}
use Rattle.pp_laws_pool.proofs.WalkPieces.{bad_head-keeps, bad_response-keeps, finish-keeps}
use Rattle.pp_reads_law.proofs.Fronts.{IsFront, is_front}
use Rattle.pp_reads_law.specs.Heads.{begun_by}
use Rattle.pp_reads_law.specs.Interims.{IsClearedTo}
use Rattle.pp_states_law.specs.Readings.{with_raw}
use Rattle.pp_text.specs.Bytes.{is_empty}
use Rattle.pp_joints_law.proofs.LinesShrink.{HasLine}

-- ---- what is kept

abbrev pub Lone : ℕ → View → Type 0
Lone n v = (k : Conn) (e : Exchange) → find (is_conn n) v.conns ≡ Some k → IsIn e v.exchanges → IsIn e.number k.line → goes_alone e.head ≡ true → length k.line ≤ 1

abbrev pub IsLone : ℕ → State → Type 0
IsLone n s = Holds (Lone n) s

-- its number and head are those that it had
as_it_was : (n : ℕ) (v : View) (k : Conn) (d e : Exchange) → Lone n v → find (is_conn n) v.conns ≡ Some k → IsIn e v.exchanges → d.number ≡ e.number → d.head ≡ e.head → IsIn d.number k.line → goes_alone d.head ≡ true → length k.line ≤ 1
as_it_was n v k d e h found there number head at alone = h k e found there (subst (λ (m : ℕ). IsIn m k.line) number at) (ap goes_alone (sym head) ∙ alone)

-- its line is no longer than it was, and has no other exchange
by_line : (n : ℕ) (f : Conn → Conn) (v : View) → ((k : Conn) → (f k).number ≡ k.number) → ((k : Conn) → length (f k).line ≤ length k.line) → ((k : Conn) (m : ℕ) → IsIn m (f k).line → IsIn m k.line) → Lone n v → Lone n (record v { conns = map f v.conns })
by_line n f v number less within h k e found there at alone =
    let w = find_map n f v.conns k number found in
    let was : length w.0.line ≤ 1 = h w.0 e w.1 there (within w.0 e.number (subst (λ (j : Conn). IsIn e.number j.line) w.2 at)) alone in
    subst (λ (j : Conn). length j.line ≤ 1) (sym w.2) (le_trans (less w.0) was)

unplaced_lone : (n m : ℕ) (s : State) → Lone n (view s) → Lone n (view (on_exchange m unplaced s))
unfolding on_exchange
unplaced_lone n m s h k d found there at alone = by (in_change (is_exchange m) unplaced d s.exchanges there)
  where
    by : Changed (is_exchange m) unplaced s.exchanges d → length k.line ≤ 1
    by (same i isnt) = h k d found i at alone
    by (other x i hit is) = as_it_was n (view s) k d x h found i (ap (λ (y : Exchange). y.number) is) (ap (λ (y : Exchange). y.head) is) at alone

pub lone_walk : (n : ℕ) → Walk (Lone n)
lone_walk n = record {
  clients = λ f number v h. h;
  asks = λ f alike v h k d found there at alone.
      let r = in_map f d v.exchanges there in
      as_it_was n v k d r.was h found r.there (ap (λ (y : Exchange). y.number) r.is ∙ (alike r.was).number) (ap (λ (y : Exchange). y.head) r.is ∙ (alike r.was).head) at alone;
  left = λ test v h k d found there at alone. left k d v h found at alone (in_change test left_alone d v.exchanges there);
  over = λ test v h k d found there at alone. h k d found (in_filter test d v.exchanges there).0 at alone;
  conns = λ f lesser v h. by_line n f v (λ k. (lesser k).number) (λ k. (lesser k).line) (λ k. (lesser k).within) h;
  chunks = λ test v h. h;
  again = λ m s may h. unplaced_lone n m s h;
}
  where
    left : {test : Exchange → Bool} (k : Conn) (d : Exchange) (v : View) → Lone n v → find (is_conn n) v.conns ≡ Some k → IsIn d.number k.line → goes_alone d.head ≡ true → Changed test left_alone v.exchanges d → length k.line ≤ 1
    left k d v h found at alone (same i isnt) = h k d found i at alone
    left k d v h found at alone (other x i hit is) = as_it_was n v k d x h found i (ap (λ (y : Exchange). y.number) is) (ap (λ (y : Exchange). y.head) is) at alone

-- ---- one connection is changed, but for its line

at_number : (m : ℕ) (f : Conn → Conn) (k : Conn) (b : Bool) → (f k).number ≡ k.number → (elim b as (λ t. Conn) [ true ↦ f k | false ↦ k ]).number ≡ k.number
at_number m f k true alike = alike
at_number m f k false alike = refl

at_line : (f : Conn → Conn) (k : Conn) (b : Bool) → (f k).line ≡ k.line → (elim b as (λ t. Conn) [ true ↦ f k | false ↦ k ]).line ≡ k.line
at_line f k true alike = alike
at_line f k false alike = refl

pub set_lone : (n m : ℕ) (f : Conn → Conn) (s : State) → ((k : Conn) → (f k).number ≡ k.number) → ((k : Conn) → (f k).line ≡ k.line) → IsLone n s → IsLone n (on_conn m f s)
unfolding on_conn
set_lone n m f s number line h =
    holds (by_line n (λ k. elim (is_conn m k) as (λ t. Conn) [ true ↦ f k | false ↦ k ]) (view s) (λ k. at_number m f k (is_conn m k) (number k))
    (λ k. subst (λ (ns : List ℕ). length ns ≤ length k.line) (sym (at_line f k (is_conn m k) (line k))) (le_refl (length k.line))) (λ k i. subst (λ (ns : List ℕ). IsIn i ns) (at_line f k (is_conn m k) (line k))) (facts_of h))

-- neither connections nor exchanges change
pub same_lone : (n : ℕ) (s t : State) → t.conns ≡ s.conns → t.exchanges ≡ s.exchanges → IsLone n s → IsLone n t
same_lone n s t conns exchanges h = holds (λ k e found there. facts_of h k e (ap (λ (ks : List Conn). find (is_conn n) ks) (sym conns) ∙ found) (subst (λ (es : List Exchange). IsIn e es) exchanges there))

-- ---- behind a head

pub cleared_lone : (n : ℕ) (s t : State) (k before : Conn) → IsClearedTo s n k before t → IsLone n s → IsLone n t
cleared_lone n s t k before (inl is) h = subst (λ (u : State). IsLone n u) (sym is.1) h
cleared_lone n s t k before (inr is) h = subst (λ (u : State). IsLone n u) (sym is.1) (set_lone n n (with_unread []) s (λ j. refl) (λ j. refl) h)

pub refused_lone : (n : ℕ) (k : Conn) (e : Exchange) (head : Response) (s : State) → IsLone n s → IsLone n (bad_head k (bring_row e head s))
refused_lone n k e head s h = bad_head-keeps (lone_walk n) k (bring_row e head s) (bring_row-keeps (lone_walk n) e head s h)

pub taken_lone : (n : ℕ) (k : Conn) (e : Exchange) (head : Response) (rule : BodyRule) (s : State) → IsLone n s → IsLone n (end_if_empty k e (answer_with e head rule) (begun_by k e head rule s))
unfolding end_if_empty
taken_lone n k e head rule s h = by (body_of rule []).outcome
  where
    begun : IsLone n (begun_by k e head rule s)
    begun = by_aim-keeps (lone_walk n) e head rule _ (set_lone n k.number (answered_by (answer_with e head rule)) (bring_row e head s) (λ j. refl) (λ j. refl) (bring_row-keeps (lone_walk n) e head s h))

    by : (o : Outcome) → IsLone n (elim o as (λ t. State) [ Done rest ↦ finish k e (answer_with e head rule) (begun_by k e head rule s) | Going ↦ begun_by k e head rule s | NoBody ↦ begun_by k e head rule s ])
    by (Done rest) = finish-keeps (lone_walk n) k e (answer_with e head rule) _ begun
    by Going = begun
    by NoBody = begun

-- ---- behind data

moved_same : (m : ℕ) (e : Exchange) → SameAsk (moved_on m e) e
moved_same m e = by (bound_of e)
  where
    by : (o : Option Bound) → SameAsk (elim o as (λ c. Exchange) [ None ↦ e | Some b ↦ record e { body = Joining (record b { next = b.next + m }) } ]) e
    by None = same_ask e e refl refl refl refl refl refl
    by (Some b) = same_ask _ e refl refl refl refl refl refl

noted_lone : (n : ℕ) (e : Exchange) (a : Answer) (at : ℕ) (bytes : Bytes) (s : State) → IsLone n s → IsLone n (note_sent e a at bytes s)
unfolding note_sent note_own
noted_lone n e a at bytes s h = by_aim_of e.aim h (when (is_empty bytes) h (holds (facts_of h))) (λ v from to. when (is_empty bytes) h (holds (facts_of h)))

joined_lone : (n : ℕ) (b : Bound) (bytes : Bytes) (s : State) → IsLone n s → IsLone n (join b bytes s)
unfolding join note_use
joined_lone n b bytes s h = each_of (joined_one b bytes s) h (λ x. holds (facts_of h))

pub deliver_lone : (n : ℕ) (e : Exchange) (a : Answer) (at : ℕ) (bytes : Bytes) (s : State) → IsLone n s → IsLone n (deliver e a at bytes s)
unfolding deliver join_bound
deliver_lone n e a at bytes s h =
    let noted : IsLone n (note_sent e a at bytes s) = noted_lone n e a at bytes s h in
    pour-keeps (lone_walk n) e (poured bytes) _ (each_of (bound_of e) noted (λ b. on_exchange-keeps (lone_walk n) e.number (moved_on (length bytes)) _ (moved_same (length bytes)) (joined_lone n b bytes _ noted)))

-- ---- one piece of the law behind the other

-- behind a head, refused or taken
pub head_alone : (n : ℕ) (k before : Conn) (e : Exchange) (head : Response) (rule : BodyRule) (s then t : State) → IsClearedTo s n k before then
    → (t ≡ bad_head before (bring_row e head then)) ⊎ ((is_wrong_head e head ≡ false) × (t ≡ end_if_empty before e (answer_with e head rule) (begun_by before e head rule then))) → IsLone n s → IsLone n t
head_alone n k before e head rule s then t stands law h = by law
  where
    was : IsLone n then
    was = cleared_lone n s then k before stands h

    by : (t ≡ bad_head before (bring_row e head then)) ⊎ ((is_wrong_head e head ≡ false) × (t ≡ end_if_empty before e (answer_with e head rule) (begun_by before e head rule then))) → IsLone n t
    by (inl is) = subst (λ (u : State). IsLone n u) (sym is) (refused_lone n before e head then was)
    by (inr is) = subst (λ (u : State). IsLone n u) (sym is.1) (taken_lone n before e head rule then was)

-- behind data
module _ (n : ℕ) (k : Conn) (e : Exchange) (a : Answer) (came : Bytes) where
  abbrev behind : State → State
  behind s = deliver e a (length (payload_of a)) came s

  delivered : (s : State) → IsLone n s → IsLone n (behind s)
  delivered s h = deliver_lone n e a (length (payload_of a)) came s h

  pub more_alone : (bytes : Bytes) (s t : State) → t ≡ on_conn k.number (with_raw a bytes) (behind s) → IsLone n s → IsLone n t
  more_alone bytes s t is h = subst (λ (u : State). IsLone n u) (sym is) (set_lone n k.number (with_raw a bytes) (behind s) (λ j. refl) (λ j. refl) (delivered s h))

  pub whole_alone : (s t : State) → t ≡ finish k e a (behind s) → IsLone n s → IsLone n t
  whole_alone s t is h = subst (λ (u : State). IsLone n u) (sym is) (finish-keeps (lone_walk n) k e a (behind s) (delivered s h))

  pub bad_alone : (s t : State) → t ≡ bad_response k (behind s) → IsLone n s → IsLone n t
  bad_alone s t is h = subst (λ (u : State). IsLone n u) (sym is) (bad_response-keeps (lone_walk n) k (behind s) (delivered s h))

-- ---- so where the first of a line goes alone, none waits behind it

pub is_alone : (n : ℕ) (s then : State) (k before : Conn) (e : Exchange) → IsClearedTo s n k before then → conn then n ≡ Some before → front_of_line then before ≡ Some e → goes_alone e.head ≡ true → IsLone n s → HasLine n 1 then
is_alone n s then k before e stands there front alone h = holds (λ j found. subst (λ (i : Conn). length i.line ≤ 1) (same_in (sym there ∙ found)) one)
  where
    first : IsFront then before e
    first = is_front then before e front

    one : length before.line ≤ 1
    one = facts_of (cleared_lone n s then k before stands h) before e there (in_find (is_exchange e.number) e then.exchanges first.known).0 (subst (λ (ns : List ℕ). IsIn e.number ns) (sym first.line) (inl refl)) alone
