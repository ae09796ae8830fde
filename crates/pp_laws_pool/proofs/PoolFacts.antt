-- What each step of the law keeps of the pool: how many chunks are used, that no two are of one place, and whether the trigger was
-- reached; and that each answer under way goes on.
use Rattle.std.proofs.Common.{◌≡◌, ◌⊎◌, refl, ℕ, ◌-◌, ◌≤◌, Bool, true, false, ◌==◌, List, [], ◌∷◌, ◌++◌, map, filter, find, cond, length, Option, Some, None, inl, inr, sym, subst, ap, ◌∙◌, le_trans}
use Rattle.pp_conf.specs.Conf.{Settings}
use Rattle.pp_framing.specs.Body.{Going}
use Rattle.pp_framing.specs.Rules.{body_of}
use Rattle.pp_head.specs.Read.{More}
use Rattle.pp_head.specs.Response.{response_at, find_response}
use Rattle.pp_law.specs.Chunks.{is_chunk, put_chunk}
use Rattle.pp_law.specs.Closing.{forsake, leave}
use Rattle.pp_law.specs.Connections.{is_conn, on_conn, on_exchange, put_on, unplaced, may_ask_again}
use Rattle.pp_law.specs.Deciding.{add_exchange, begin_exchange}
use Rattle.pp_law.specs.State.{State, Answer, Chunk, Conn, Owed, Phase}
use Rattle.pp_laws.specs.Runs.{IsIn}
use Rattle.pp_laws.proofs.Lists.{Changed, From, in_change, in_map, other, same}
use Rattle.pp_laws_bounds.proofs.Counts.{length-filter}
use Rattle.pp_laws_pool.proofs.ChunkLists.{AreApart, apart_filter, put_apart, used_length}
use Rattle.pp_laws_pool.proofs.View.{View, Walk, Uses, Places, Begins, Holds, holds, facts_of, view, Lesser}

-- how many chunks there may be, and where we are; an answer that is not looked at while it begins; and how long the line of one
-- connection may be
pub record As : Type 0 where
  pub settings : Settings
  pub phase : Phase
  pub owed : Owed
  pub most : ℕ
  pub but : Option (ℕ × Answer)
  pub line : Option (ℕ × ℕ)

-- room for 32 more
abbrev pub calm : Settings → ℕ
calm c = c.critical - 32

abbrev pub GoesOn : Answer → Type 0
GoesOn a = (body_of a.rule a.raw).outcome ≡ Going

-- none has to go; or the trigger was reached
abbrev pub IsNear : Settings → Bool → List Chunk → Type 0
IsNear c is_evicting chunks = (is_evicting ≡ true) ⊎ (length chunks ≤ calm c)

pub record Facts (a : As) (settings : Settings) (phase : Phase) (owed : Owed) (is_evicting : Bool) (conns : List Conn) (chunks : List Chunk) : Type 0 where
  pub set : settings ≡ a.settings
  pub at : phase ≡ a.phase
  pub owes : owed ≡ a.owed
  pub few : length chunks ≤ a.most
  pub apart : AreApart chunks
  pub near : IsNear a.settings is_evicting chunks
  pub going : (k : Conn) (x : Answer) → IsIn k conns → k.answer ≡ Some x → GoesOn x ⊎ (a.but ≡ Some (k.number, x))
  pub unread : (k : Conn) → IsIn k conns → response_at k.unread ≡ More
  pub lined : (n most : ℕ) (k : Conn) → a.line ≡ Some (n, most) → find (is_conn n) conns ≡ Some k → length k.line ≤ most

abbrev pub Pool : As → View → Type 0
Pool a v = Facts a v.settings v.phase v.owed v.is_evicting v.conns v.chunks

-- ---- fewer chunks

near_fewer : (c : Settings) (b : Bool) (cs ds : List Chunk) → length ds ≤ length cs → IsNear c b cs → IsNear c b ds
near_fewer c b cs ds le (inl is) = inl is
near_fewer c b cs ds le (inr few) = inr (le_trans le few)

with_chunks : (a : As) (v : View) (chunks : List Chunk) → length chunks ≤ length v.chunks → AreApart chunks → Pool a v → Pool a (record v { chunks = chunks })
with_chunks a v chunks le apart h = record {
  set = h.set;
  at = h.at;
  owes = h.owes;
  few = le_trans le h.few;
  apart = apart;
  near = near_fewer a.settings v.is_evicting v.chunks chunks le h.near;
  going = h.going;
  unread = h.unread;
  lined = h.lined;
}

-- ---- connections

pub find_map : (n : ℕ) (f : Conn → Conn) (ks : List Conn) (k : Conn) → ((j : Conn) → (f j).number ≡ j.number) → find (is_conn n) (map f ks) ≡ Some k → (j : Conn) × (find (is_conn n) ks ≡ Some j) × (k ≡ f j)
find_map n f [] k kept found = absurd (cc found)
find_map n f (j ∷ js) k kept found = by (is_conn n (f j)) (is_conn n j) (ap (λ m. m == n) (kept j)) refl found (λ rest. find_map n f js k kept rest)
  where
    by : (t u : Bool) → t ≡ u → is_conn n j ≡ u → cond t (Some (f j)) (find (is_conn n) (map f js)) ≡ Some k → (find (is_conn n) (map f js) ≡ Some k → (i : Conn) × (find (is_conn n) js ≡ Some i) × (k ≡ f i)) → (i : Conn) × (cond u (Some j) (find (is_conn n) js) ≡ Some i) × (k ≡ f i)
    by true true is hit at rest = let e : f j ≡ k = cc at in (j, refl, sym e)
    by true false is hit at rest = absurd (cc is)
    by false true is hit at rest = absurd (cc is)
    by false false is hit at rest = rest at

-- where each has its number and no longer a line, each answer goes on, and of each head more is to come
pub conns_kept : (a : As) (but : Option (ℕ × Answer)) (v : View) (f : Conn → Conn) → ((k : Conn) → (f k).number ≡ k.number) → ((k : Conn) → length (f k).line ≤ length k.line)
    → ((k : Conn) (x : Answer) → IsIn k v.conns → (f k).answer ≡ Some x → GoesOn x ⊎ (but ≡ Some (k.number, x))) → ((k : Conn) → IsIn k v.conns → response_at (f k).unread ≡ More)
    → Pool a v → Pool (record a { but = but }) (record v { conns = map f v.conns })
conns_kept a but v f number line going unread h = record {
  set = h.set;
  at = h.at;
  owes = h.owes;
  few = h.few;
  apart = h.apart;
  near = h.near;
  going = λ k x i is. going_by k x (in_map f k v.conns i) is;
  unread = λ k i. unread_by k (in_map f k v.conns i);
  lined = λ n most k is found. let w = find_map n f v.conns k number found in subst (λ (j : Conn). length j.line ≤ most) (sym w.2) (le_trans (line w.0) (h.lined n most w.0 is w.1));
}
  where
    going_by : (k : Conn) (x : Answer) → From f v.conns k → k.answer ≡ Some x → GoesOn x ⊎ (but ≡ Some (k.number, x))
    going_by k x r is =
        subst (λ n. GoesOn x ⊎ (but ≡ Some (n, x))) (sym (ap (λ (j : Conn). j.number) r.is ∙ number r.was)) (going r.was x r.there (sym (ap (λ (j : Conn). j.answer) r.is) ∙ is))

    unread_by : (k : Conn) → From f v.conns k → response_at k.unread ≡ More
    unread_by k r = subst (λ (j : Conn). response_at j.unread ≡ More) (sym r.is) (unread r.was r.there)

-- of nothing more is to come
pub nothing_read : response_at [] ≡ More
unfolding response_at find_response
nothing_read = refl

lesser_kept : (a : As) (v : View) (f : Conn → Conn) → ((k : Conn) → Lesser (f k) k) → Pool a v → Pool a (record v { conns = map f v.conns })
lesser_kept a v f lesser h = conns_kept a a.but v f (λ k. (lesser k).number) (λ k. (lesser k).line) (λ k x i. going k x i (lesser k).answer) (λ k i. unread k i (lesser k).unread) h
  where
    going : (k : Conn) (x : Answer) → IsIn k v.conns → ((f k).answer ≡ k.answer) ⊎ ((f k).answer ≡ None) → (f k).answer ≡ Some x → GoesOn x ⊎ (a.but ≡ Some (k.number, x))
    going k x i (inl e) is = h.going k x i (sym e ∙ is)
    going k x i (inr none) is = let both : None ≡ Some x = sym none ∙ is in absurd (cc both)

    unread : (k : Conn) → IsIn k v.conns → ((f k).unread ≡ k.unread) ⊎ ((f k).unread ≡ []) → response_at (f k).unread ≡ More
    unread k i (inl e) = ap response_at e ∙ h.unread k i
    unread k i (inr none) = ap response_at none ∙ nothing_read

-- ---- all

pub pool_walk : (a : As) → Walk (Pool a)
unfolding on_exchange
pool_walk a = record {
  clients = λ f kept v h. h;
  asks = λ f kept v h. h;
  left = λ test v h. h;
  over = λ test v h. h;
  conns = λ f lesser v h. lesser_kept a v f lesser h;
  chunks = λ test v h. with_chunks a v (filter test v.chunks) (length-filter test v.chunks) (apart_filter test v.chunks h.apart) h;
  again = λ n s may h. h;
}

pub pool_uses : (a : As) → Uses (Pool a)
pool_uses a id i c v found h = with_chunks a v (put_chunk id i c.bytes v.chunks) (used_length id i c.bytes c v.chunks found) (put_apart id i c.bytes v.chunks h.apart) h

pub pool_begins : (a : As) → Begins (Pool a)
unfolding begin_exchange add_exchange leave forsake
pool_begins a e s is_new h = h

-- where no line is looked at
pub pool_places : (a : As) → a.line ≡ None → Places (Pool a)
unfolding put_on on_conn on_exchange
pool_places a none n k s h = record {
  set = h.set;
  at = h.at;
  owes = h.owes;
  few = h.few;
  apart = h.apart;
  near = h.near;
  going = λ j x i is. going_by j x (in_change (is_conn k) (λ g. record g { line = g.line ++ n ∷ [] }) j s.conns i) is;
  unread = λ j i. unread_by j (in_change (is_conn k) (λ g. record g { line = g.line ++ n ∷ [] }) j s.conns i);
  lined = λ m most j is. let both : None ≡ Some (m, most) = sym none ∙ is in absurd (cc both);
}
  where
    going_by : (j : Conn) (x : Answer) → Changed (is_conn k) (λ g. record g { line = g.line ++ n ∷ [] }) s.conns j → j.answer ≡ Some x → GoesOn x ⊎ (a.but ≡ Some (j.number, x))
    going_by j x (same i isnt) is = h.going j x i is
    going_by j x (other g i hit e) is = subst (λ m. GoesOn x ⊎ (a.but ≡ Some (m, x))) (sym (ap (λ (c : Conn). c.number) e)) (h.going g x i (sym (ap (λ (c : Conn). c.answer) e) ∙ is))

    unread_by : (j : Conn) → Changed (is_conn k) (λ g. record g { line = g.line ++ n ∷ [] }) s.conns j → response_at j.unread ≡ More
    unread_by j (same i isnt) = h.unread j i
    unread_by j (other g i hit e) = ap (λ (c : Conn). response_at c.unread) e ∙ h.unread g i
