-- What one read brings, piece by piece: how far it was read, and that what is put on record stands there.
use Rattle.std.proofs.Common.{◌≡◌, ◌⊎◌, refl, ℕ, zero, suc, ◌+◌, ◌<◌, ◌≤◌, Bool, true, false, not, ◌==◌, ◌&&◌, ◌||◌, List, [], ◌∷◌, ◌++◌, map, find, take, drop, length, Option, Some, None, Result, Ok, Err, inl, inr, nat_le, cond, sym, subst, ap, ap₂, ◌∙◌, append_assoc, arith, length-append}
use Rattle.std.proofs.lemmas.List.{append-nil, length-drop, length-take-le, take-append-drop}
use Rattle.pp_framing.specs.Body.{Body, Outcome, Done, Going, Bad}
use Rattle.pp_framing.specs.Framing.{rule_of}
use Rattle.pp_framing.specs.Rules.{body_of}
use Rattle.pp_framing.specs.declared.body.BodyRule.{BodyRule}
use Rattle.pp_framing.specs.declared.framing.ResponseFault.{ResponseFault}
use Rattle.pp_head.proofs.ResponseAgrees.{response_cut}
use Rattle.std.proofs.lemmas.Bool.Decides.{nat_tests}
use Rattle.pp_head.specs.Request.{Request}
use Rattle.pp_plan.specs.Requests.{is_head}
use Rattle.pp_target.specs.Key.{text_of}
use Rattle.pp_valid.specs.Codings.{accepts_only_identity}
use Rattle.pp_valid.specs.Versions.{version_of}
use Rattle.pp_laws.specs.Numbers.{AreRising}
use Rattle.pp_head.specs.Read.{Read, Whole, TooLong, Bad as NoHead, More}
use Rattle.pp_head.specs.Response.{Response, response_at}
use Rattle.pp_pass.specs.Pipe.{finished}
use Rattle.pp_pipe.specs.Front.{is_interim}
use Rattle.pp_text.specs.Bytes.{is_empty}
use Rattle.pp_valid.specs.declared.version.Version.{Version}
use Rattle.pp_law.specs.Chunks.{note_use}
use Rattle.pp_law.specs.Connections.{conn, is_conn, on_conn, on_exchange, front_of_line, close_conn, end_exchange, lose_place, lose_attempt}
use Rattle.pp_law.specs.Lists.{Bytes, change}
use Rattle.pp_law.specs.OwnHeads.{key_of, first_offset, version_in, is_wrong_head, sent_as, note_own, note_sent, join, joined_one, join_bound, moved_on}
use Rattle.pp_law.specs.Passing.{pour, poured}
use Rattle.pp_law.specs.Responses.{skip_body, rested, may_go_on, finish, bad_response, bad_head, asks_head, by_aim, answer_with, answered_by, end_if_empty, begin_answer, answer_for, head_came, Piece, is_early, with_unread, head_piece_of, head_piece, deliver, payload_of, body_piece_of, body_piece, next_piece, got, bring_row}
use Rattle.pp_law.specs.Stages.{bound_of}
use Rattle.pp_law.specs.State.{State, Sent, Aim, Through, Own, Filling, Joining, Answer, Bound, Chunk, Conn, Exchange}
use Rattle.pp_law.specs.Table.{instance}
use Rattle.pp_laws.specs.Runs.{IsIn}
use Rattle.pp_laws.proofs.Lists.{Changed, in_change, in_find, one_of, other, rise_change, same}
use Rattle.pp_laws.proofs.Payloads.{payload-grows}
use Rattle.pp_laws.proofs.Pieces.{front_by}
use Rattle.pp_laws.proofs.Sound.{conn_number, first_of}
use Rattle.pp_laws.proofs.Untouched.{bring_row-untouched}
use Rattle.pp_laws.proofs.Tests.{number_same, same_number}
use Rattle.pp_laws_pool.proofs.Payloads.{nothing_bad}
use Rattle.pp_laws_pool.proofs.PoolFacts.{GoesOn, nothing_read}
use Rattle.pp_laws_pool.proofs.PoolGot.{deliver-conns, head_beyond, same_first, same_in, same_second, set_apart}
use Rattle.pp_laws_pool.proofs.View.{View, Walk, Holds, holds, facts_of, view, SameAsk, Lesser}
use Rattle.pp_laws_pool.proofs.WalkCases.{by_aim_of, each_of, when}
use Rattle.pp_laws_pool.proofs.WalkClients.{pour-keeps}
use Rattle.pp_laws_pool.proofs.WalkClosings.{close_conn-keeps, lose_place-keeps, off}
use Rattle.pp_laws_pool.proofs.WalkExchanges.{each_exchange-keeps, on_exchange-keeps, same_ask}
use Rattle.pp_laws_pool.proofs.WalkHeads.{bring_row-keeps, by_aim-keeps}
use Rattle.pp_laws_pool.proofs.WalkPieces.{bad_head-keeps, bad_response-keeps, close_this-keeps, finish-keeps}
use Rattle.pp_laws_sent.specs.Stands.{StandsIn}
use Rattle.pp_laws_sent.proofs.Bodies.{body_less, done_ends}
use Rattle.pp_laws_lines.proofs.Lined.{IsPlain, Lined, facts_of as lines_of, named_here, naming, plain_named, same_names}
use Rattle.pp_laws_lines.proofs.LinedHeads.{next_piece-lined}
use Rattle.pp_laws_lines.proofs.Stands.{Since}
use Rattle.pp_laws_sent.proofs.Came.{Alike, Began, Came, EndsWith, WasAsked, came_named, came_walk, none_apart, of_map}

-- ---- a connection that has neither an answer nor unread bytes

abbrev pub Shut : ℕ → View → Type 0
Shut n v = (k : Conn) → IsIn k v.conns → k.number ≡ n → (k.answer ≡ None) × (k.unread ≡ [])

shut_walk : (n : ℕ) → Walk (Shut n)
unfolding on_exchange
shut_walk n = record {
  clients = λ f kept v h. h;
  asks = λ f kept v h. h;
  left = λ test v h. h;
  over = λ test v h. h;
  conns = λ f lesser v h. of_map (λ (x : Conn). x.number ≡ n → (x.answer ≡ None) × (x.unread ≡ [])) f v.conns (λ j i is. by f lesser v h j i is);
  chunks = λ test v h. h;
  again = λ m s may h. h;
}
  where
    answer : (j k : Conn) → k.answer ≡ None → (j.answer ≡ k.answer) ⊎ (j.answer ≡ None) → j.answer ≡ None
    answer j k none (inl e) = e ∙ none
    answer j k none (inr e) = e

    unread : (j k : Conn) → k.unread ≡ [] → (j.unread ≡ k.unread) ⊎ (j.unread ≡ []) → j.unread ≡ []
    unread j k none (inl e) = e ∙ none
    unread j k none (inr e) = e

    by : (f : Conn → Conn) → ((k : Conn) → Lesser (f k) k) → (v : View) → Shut n v → (j : Conn) → IsIn j v.conns → (f j).number ≡ n → ((f j).answer ≡ None) × ((f j).unread ≡ [])
    by f lesser v h j i is = let l = lesser j in let w = h j i (sym l.number ∙ is) in (answer (f j) j w.0 l.answer, unread (f j) j w.1 l.unread)

-- where all of that number were changed so
shut_by : (n : ℕ) (f : Conn → Conn) (s : State) → ((k : Conn) → ((f k).answer ≡ None) × ((f k).unread ≡ [])) → Holds (Shut n) (on_conn n f s)
unfolding on_conn
shut_by n f s none = holds (λ k i is. by k (in_change (is_conn n) f k s.conns i) is)
  where
    by : (k : Conn) → Changed (is_conn n) f s.conns k → k.number ≡ n → (k.answer ≡ None) × (k.unread ≡ [])
    by k (same i isnt) is = let both : true ≡ false = sym (number_same n) ∙ ap (λ m. m == n) (sym is) ∙ isnt in absurd (cc both)
    by k (other g i hit e) is = let w = none g in (ap (λ (x : Conn). x.answer) e ∙ w.0, ap (λ (x : Conn). x.unread) e ∙ w.1)

close_conn-shut : (counts : Bool) (k : Conn) (s : State) → Holds (Shut k.number) (close_conn counts k s)
unfolding close_conn
close_conn-shut counts k s =
    each_exchange-keeps (shut_walk k.number) (lose_place (counts && not k.has_brought)) (λ e t ht. lose_place-keeps (shut_walk k.number) (counts && not k.has_brought) e t ht) k.line _ (shut_by k.number off s (λ j. (refl, refl)))

bad_response-shut : (k : Conn) (s : State) → Holds (Shut k.number) (bad_response k s)
unfolding bad_response
bad_response-shut k s = each_of (front_of_line s k) (close_conn-shut false k s) (λ e. close_conn-shut false k _)

bad_head-shut : (k : Conn) (s : State) → Holds (Shut k.number) (bad_head k s)
unfolding bad_head
bad_head-shut k s = by k.has_brought
  where
    by : (t : Bool) → Holds (Shut k.number) (elim t as (λ c. State) [
      | false ↦ bad_response k s
      | true ↦ elim (front_of_line s k) as (λ c. State) [ None ↦ close_conn false k s | Some e ↦ close_conn false k (lose_attempt e s) ]
    ])
    by false = bad_response-shut k s
    by true = each_of (front_of_line s k) (close_conn-shut false k s) (λ e. close_conn-shut false k _)

finish-shut : (k : Conn) (e : Exchange) (a : Answer) (s : State) → Holds (Shut k.number) (finish k e a s)
unfolding finish
finish-shut k e a s = when (may_go_on e a.head) done (close_this-keeps (shut_walk k.number) k.number _ done)
  where
    done : Holds (Shut k.number) (on_conn k.number (rested a.head) (end_exchange e.number (skip_body e (pour e finished s))))
    done = shut_by k.number (rested a.head) _ (λ j. (refl, refl))

-- ---- what is still to be read of one connection

abbrev pub at_end : ℕ → Bytes → ℕ → Bytes
at_end n rest m = elim (m == n) [ true ↦ rest | false ↦ [] ]

pub end_here : (n : ℕ) (rest : Bytes) → at_end n rest n ≡ rest
end_here n rest = ap (λ (t : Bool). elim t as (λ c. Bytes) [ true ↦ rest | false ↦ [] ]) (number_same n)

end_away : (n m : ℕ) (rest : Bytes) → (m == n) ≡ false → at_end n rest m ≡ []
end_away n m rest isnt = ap (λ (t : Bool). elim t as (λ c. Bytes) [ true ↦ rest | false ↦ [] ]) isnt

end_same : (n m : ℕ) (xs ys : Bytes) → (m == n) ≡ false → at_end n xs m ≡ at_end n ys m
end_same n m xs ys isnt = end_away n m xs isnt ∙ sym (end_away n m ys isnt)

-- the answers that are set apart are of that connection
abbrev IsOnly : Option (ℕ × Answer) → ℕ → Type 0
IsOnly but n = (m : ℕ) (x : Answer) → but ≡ Some (m, x) → m ≡ n

none_only : (n : ℕ) → IsOnly none_apart n
none_only n m x is = absurd (cc is)

one_only : (n : ℕ) (a : Answer) → IsOnly (set_apart n a) n
one_only n a m x is = let e : n ≡ m = same_first is in sym e

differs : (m n : ℕ) → (m == n) ≡ false → m ≡ n → ⊥
differs m n isnt is = let both : true ≡ false = sym (number_same n) ∙ ap (λ x. x == n) (sym is) ∙ isnt in cc both

-- ---- words on lists and exchanges

at_most : (m n : ℕ) → nat_le m n ≡ true → m ≤ n
at_most m n is = grind (arith, nat_tests)

beyond : (m n : ℕ) → nat_le m n ≡ false → n < m
beyond m n isnt = grind (arith, nat_tests)

take_all : (xs : Bytes) → take (length xs) xs ≡ xs
take_all [] = refl
take_all (x ∷ xs) = ap (λ (ys : Bytes). x ∷ ys) (take_all xs)

-- a head is no longer than the bytes that have it
wide_by : (len : ℕ) (all : Bytes) {head : Response} → ((n : ℕ) → n < len → response_at (take n all) ≡ More) → response_at all ≡ Whole head → len ≤ length all
wide_by len all {head} fewer whole = by (nat_le len (length all)) refl
  where
    by : (t : Bool) → nat_le len (length all) ≡ t → len ≤ length all
    by true is = at_most len (length all) is
    by false isnt = let both : Whole head ≡ More = sym whole ∙ ap response_at (sym (take_all all)) ∙ fewer (length all) (beyond len (length all) isnt) in absurd (cc both)

in_line : (line : List ℕ) (n : ℕ) → first_of line ≡ Some n → IsIn n line
in_line [] n is = absurd (cc is)
in_line (m ∷ line) n is = let e : m ≡ n = same_in is in inl (sym e)

not_found : (n : ℕ) (ks : List Conn) (k : Conn) → find (is_conn n) ks ≡ None → IsIn k ks → (k.number == n) ≡ false
not_found n [] k none i = absurd i
not_found n (j ∷ ks) k none i = by (is_conn n j) refl none i (λ rest i2. not_found n ks k rest i2)
  where
    by : (t : Bool) → is_conn n j ≡ t → cond t (Some j) (find (is_conn n) ks) ≡ None → (k ≡ j) ⊎ IsIn k ks → (find (is_conn n) ks ≡ None → IsIn k ks → (k.number == n) ≡ false) → (k.number == n) ≡ false
    by true is rest i2 more = absurd (cc rest)
    by false is rest (inl eq) more = ap (is_conn n) eq ∙ is
    by false is rest (inr i2) more = more rest i2

asks_head_same : (e d : Exchange) → Alike e d → asks_head e ≡ asks_head d
asks_head_same e d so = ap₂ (λ (aim : Aim) (head : Request). elim aim as (λ c. Bool) [ Through ↦ is_head head.method | Own ↦ false | Filling v from to ↦ false ]) so.aim so.head

version_in_same : (e d : Exchange) (head : Response) → Alike e d → version_in e head ≡ version_in d head
version_in_same e d head so =
    ap₂ (λ (aim : Aim) (r : Request). version_of head.fields head.status (elim aim as (λ c. Bool) [ Through ↦ accepts_only_identity r.fields | Own ↦ accepts_only_identity r.fields | Filling v from to ↦ true ])) so.aim so.head

-- ---- what joins

join-keeps : {P : View → Type 0} (b : Bound) (bytes : Bytes) (s : State) → ((v : View) (is_evicting : Bool) (chunks : List Chunk) → P v → P (record v { is_evicting = is_evicting; chunks = chunks })) → Holds P s → Holds P (join b bytes s)
unfolding join note_use
join-keeps b bytes s free h = each_of (joined_one b bytes s) h (λ x. holds (free (view s) _ _ (facts_of h)))

moved_same : (m : ℕ) (e : Exchange) → SameAsk (moved_on m e) e
moved_same m e = by (bound_of e)
  where
    by : (o : Option Bound) → SameAsk (elim o as (λ c. Exchange) [ None ↦ e | Some b ↦ record e { body = Joining (record b { next = b.next + m }) } ]) e
    by None = same_ask e e refl refl refl refl refl refl
    by (Some b) = same_ask _ e refl refl refl refl refl refl

pub join_bound-keeps : {P : View → Type 0} (w : Walk P) (e : Exchange) (bytes : Bytes) (s : State) → ((v : View) (is_evicting : Bool) (chunks : List Chunk) → P v → P (record v { is_evicting = is_evicting; chunks = chunks })) → Holds P s → Holds P (join_bound e bytes s)
unfolding join_bound
join_bound-keeps w e bytes s free h = each_of (bound_of e) h (λ b. on_exchange-keeps w e.number (moved_on (length bytes)) _ (moved_same (length bytes)) (join-keeps b bytes s free h))

module _ (total : ℕ → Bytes) (asked : ℕ → Exchange → Type 0) (firsts : ℕ → Option ℕ) where
  abbrev pub Reading : ℕ → Bytes → Option (ℕ × Answer) → View → Type 0
  Reading n rest but v = Came total (at_end n rest) asked firsts true but v

  walk : (n : ℕ) (rest : Bytes) (but : Option (ℕ × Answer)) → Walk (Reading n rest but)
  walk n rest but = came_walk total (at_end n rest) asked firsts true but

  -- ---- one that was changed

  -- how a connection stands, of which this is still to be read
  record Stood (but : Option (ℕ × Answer)) (rest : Bytes) (x : Conn) : Type 0 where
    read : EndsWith (total x.number) (x.unread ++ rest)
    more : response_at x.unread ≡ More
    past : (a : Answer) → x.answer ≡ Some a → x.unread ≡ []
    shut : x.is_closing ≡ true → (x.answer ≡ None) × (x.unread ≡ [])
    begun : (a : Answer) → x.answer ≡ Some a → Began (total x.number) rest (asked x.number) (firsts x.number) a
    going : (a : Answer) → x.answer ≡ Some a → GoesOn a ⊎ (but ≡ Some (x.number, a))

  stood_of : (n : ℕ) (rest : Bytes) (but : Option (ℕ × Answer)) (v : View) (k : Conn) → IsIn k v.conns → Reading n rest but v → Stood but (at_end n rest k.number) k
  stood_of n rest but v k i h = record { read = h.read k i; more = h.more k i; past = λ a. h.past k a i; shut = h.shut k i; begun = λ a. h.begun k a i; going = λ a. h.going k a i }

  elsewhere : (n : ℕ) (bytes rest : Bytes) (but but2 : Option (ℕ × Answer)) (v : View) (k : Conn) → IsIn k v.conns → (k.number == n) ≡ false → IsOnly but n → Reading n bytes but v → Stood but2 (at_end n rest k.number) k
  elsewhere n bytes rest but but2 v k i isnt only h = subst (λ (e : Bytes). Stood but2 e k) (end_same n k.number bytes rest isnt) (record {
    read = h.read k i;
    more = h.more k i;
    past = λ a. h.past k a i;
    shut = h.shut k i;
    begun = λ a. h.begun k a i;
    going = λ a is. by a (h.going k a i is);
  })
    where
      by : (a : Answer) → GoesOn a ⊎ (but ≡ Some (k.number, a)) → GoesOn a ⊎ (but2 ≡ Some (k.number, a))
      by a (inl on) = inl on
      by a (inr e) = absurd (differs k.number n isnt (only k.number a e))

  facts_by : (n : ℕ) (bytes rest : Bytes) (but but2 : Option (ℕ × Answer)) (v : View) (conns : List Conn) → AreRising (map conn_number conns) → ((k : Conn) (e : Exchange) → IsIn k conns → IsIn e v.exchanges → IsIn e.number k.line → WasAsked (asked k.number) e)
      → ((k : Conn) → IsIn k conns → Stood but2 (at_end n rest k.number) k) → Reading n bytes but v → Reading n rest but2 (record v { conns = conns })
  facts_by n bytes rest but but2 v conns rise from each h = record {
    stand = h.stand;
    read = λ k i. (each k i).read;
    more = λ k i. (each k i).more;
    past = λ k a i. (each k i).past a;
    shut = λ k i. (each k i).shut;
    begun = λ k a i. (each k i).begun a;
    going = λ k a i. (each k i).going a;
    rise = λ on. rise;
    from = λ on. from;
  }

  one_changed : (but but2 : Option (ℕ × Answer)) (k : Conn) (f : Conn → Conn) (bytes rest : Bytes) (s : State) → IsIn k s.conns → ((j : Conn) → (f j).number ≡ j.number) → ((j : Conn) → (f j).line ≡ j.line) → Stood but2 rest (f k) → IsOnly but k.number
      → Holds (Reading k.number bytes but) s → Holds (Reading k.number rest but2) (on_conn k.number f s)
  unfolding on_conn
  one_changed but but2 k f bytes rest s there number line stood only h =
      holds (facts_by k.number bytes rest but but2 (view s) (change (is_conn k.number) f s.conns) (rise_change conn_number (is_conn k.number) f number s.conns (was.rise refl)) (λ j e i i2 l. from_by e i2 j (in_change (is_conn k.number) f j s.conns i) l) (λ j i. by j (in_change (is_conn k.number) f j s.conns i)) was)
    where
      was : Reading k.number bytes but (view s)
      was = facts_of h

      it : (j : Conn) → IsIn j s.conns → is_conn k.number j ≡ true → j ≡ k
      it j i hit = one_of conn_number s.conns j k (was.rise refl) i there (same_number j.number k.number hit)

      now : Stood but2 (at_end k.number rest (f k).number) (f k)
      now = subst (λ (e : Bytes). Stood but2 e (f k)) (sym (ap (at_end k.number rest) (number k) ∙ end_here k.number rest)) stood

      by : (j : Conn) → Changed (is_conn k.number) f s.conns j → Stood but2 (at_end k.number rest j.number) j
      by j (same i isnt) = elsewhere k.number bytes rest but but2 (view s) j i isnt only was
      by j (other g i hit e) = subst (λ (x : Conn). Stood but2 (at_end k.number rest x.number) x) (sym (e ∙ ap f (it g i hit))) now

      from_by : (e : Exchange) → IsIn e s.exchanges → (j : Conn) → Changed (is_conn k.number) f s.conns j → IsIn e.number j.line → WasAsked (asked j.number) e
      from_by e i2 j (same i isnt) l = was.from refl j e i i2 l
      from_by e i2 j (other g i hit eq) l =
          subst (λ n. WasAsked (asked n) e) (sym (ap (λ (x : Conn). x.number) eq ∙ number g)) (was.from refl g e i i2 (subst (λ ns. IsIn e.number ns) (ap (λ (x : Conn). x.line) eq ∙ line g) l))

  -- one that is shut, whatever is still to be read
  now_shut : (n : ℕ) (bytes rest : Bytes) (but : Option (ℕ × Answer)) (s : State) → EndsWith (total n) rest → IsOnly but n → Holds (Shut n) s → Holds (Reading n bytes but) s → Holds (Reading n rest none_apart) s
  now_shut n bytes rest but s ends only shut h = holds (facts_by n bytes rest but none_apart (view s) s.conns (was.rise refl) (was.from refl) (λ k i. by k i (k.number == n) refl) was)
    where
      was : Reading n bytes but (view s)
      was = facts_of h

      here : (k : Conn) → IsIn k s.conns → k.number ≡ n → (k.answer ≡ None) × (k.unread ≡ []) → Stood none_apart (at_end n rest k.number) k
      here k i is none = record {
        read = subst (λ (e : Bytes). EndsWith (total k.number) (k.unread ++ e)) (sym (ap (at_end n rest) is ∙ end_here n rest)) (subst (λ (u : Bytes). EndsWith (total k.number) (u ++ rest)) (sym none.1) (subst (λ m. EndsWith (total m) rest) (sym is) ends));
        more = ap response_at none.1 ∙ nothing_read;
        past = λ a is_a. none.1;
        shut = λ closing. none;
        begun = λ a is_a. let both : None ≡ Some a = sym none.0 ∙ is_a in absurd (cc both);
        going = λ a is_a. let both : None ≡ Some a = sym none.0 ∙ is_a in absurd (cc both);
      }

      by : (k : Conn) → IsIn k s.conns → (t : Bool) → (k.number == n) ≡ t → Stood none_apart (at_end n rest k.number) k
      by k i true is = here k i (same_number k.number n is) (facts_of shut k i (same_number k.number n is))
      by k i false isnt = elsewhere n bytes rest but none_apart (view s) k i isnt only was

  -- an answer that goes on is not set apart any more
  set_down : (n : ℕ) (rest : Bytes) (a : Answer) (s : State) → GoesOn a → Holds (Reading n rest (set_apart n a)) s → Holds (Reading n rest none_apart) s
  set_down n rest a s on h = holds (record {
    stand = (facts_of h).stand;
    read = (facts_of h).read;
    more = (facts_of h).more;
    past = (facts_of h).past;
    shut = (facts_of h).shut;
    begun = (facts_of h).begun;
    going = λ k x i is. inl (by k x ((facts_of h).going k x i is));
    rise = (facts_of h).rise;
    from = (facts_of h).from;
  })
    where
      by : (k : Conn) (x : Answer) → GoesOn x ⊎ (set_apart n a ≡ set_apart k.number x) → GoesOn x
      by k x (inl goes) = goes
      by k x (inr e) = let one : a ≡ x = same_second e in subst GoesOn one on

  -- a piece was read: less is left
  pub record ReadOn (n : ℕ) (bytes : Bytes) (p : Piece) : Type 0 where
    pub kept : Holds (Reading n p.rest none_apart) p.state
    pub less : length p.rest < length bytes

  -- ---- a head

  -- of the connection that is read
  module _ (k : Conn) (bytes : Bytes) (s : State) (there : IsIn k s.conns) (no_answer : k.answer ≡ None) (is_open : k.is_closing ≡ false) (h : Holds (Reading k.number bytes none_apart) s) (named_first : firsts k.number ≡ first_of k.line) where
    abbrev all : Bytes
    all = k.unread ++ bytes

    facts : Reading k.number bytes none_apart (view s)
    facts = facts_of h

    -- what came before them
    ends : EndsWith (total k.number) all
    ends = let w = facts.read k there in (w.0, w.1 ∙ ap (λ (e : Bytes). w.0 ++ (k.unread ++ e)) (end_here k.number bytes))

    behind_head : (len : ℕ) → EndsWith (total k.number) (drop len all)
    behind_head len = (ends.0 ++ take len all, ends.1 ∙ ap (λ (xs : Bytes). ends.0 ++ xs) (sym (take-append-drop len all)) ∙ sym (append_assoc ends.0 (take len all) (drop len all)))

    open_still : {A : Type 0} → k.is_closing ≡ true → A
    open_still is = let both : false ≡ true = sym is_open ∙ is in absurd (cc both)

    unanswered : {A : Type 0} (a : Answer) → k.answer ≡ Some a → A
    unanswered a is = let both : None ≡ Some a = sym no_answer ∙ is in absurd (cc both)

    -- so much of them is not read yet
    unread_now : (unread rest : Bytes) → response_at unread ≡ More → EndsWith (total k.number) (unread ++ rest) → Holds (Reading k.number rest none_apart) (on_conn k.number (with_unread unread) s)
    unread_now unread rest more read =
        one_changed none_apart none_apart k (with_unread unread) bytes rest s there (λ j. refl) (λ j. refl)
        (record { read = read; more = more; past = λ a is. unanswered a is; shut = λ is. open_still is; begun = λ a is. unanswered a is; going = λ a is. unanswered a is }) (none_only k.number) h

    -- the connection is closed
    closed : (rest : Bytes) (t : State) → EndsWith (total k.number) rest → Holds (Shut k.number) t → Holds (Reading k.number bytes none_apart) t → Holds (Reading k.number rest none_apart) t
    closed rest t read shut g = now_shut k.number bytes rest none_apart t read (none_only k.number) shut g

    nothing_left : EndsWith (total k.number) []
    nothing_left = (total k.number, sym (append-nil (total k.number)))

    -- ---- a final one, for the first exchange of the line

    module _ (head : Response) (whole : response_at all ≡ Whole head) (is_final : is_interim head.status ≡ false) where
      abbrev rest : Bytes
      rest = drop head.length all

      read : EndsWith (total k.number) rest
      read = behind_head head.length

      wide : head.length ≤ length all
      wide = wide_by head.length all (response_cut all head whole).fewer whole

      closed_bad : (t : State) → Holds (Reading k.number bytes none_apart) t → Holds (Reading k.number rest none_apart) (bad_head k t)
      closed_bad t ht = closed rest _ read (bad_head-shut k t) (bad_head-keeps (walk k.number bytes none_apart) k t ht)

      -- it is a response to the first exchange of the line
      module _ (e : Exchange) (front : front_of_line s k ≡ Some e) (rule : BodyRule) (ruled : rule_of (asks_head e) head.status head.fields ≡ Ok rule) where
        abbrev a : Answer
        a = answer_with e head rule

        was : WasAsked (asked k.number) e
        was = let w = front_by s k.line e front in facts.from refl k e there w.0 (in_line k.line e.number w.1)

        pub began : Began (total k.number) rest (asked k.number) (firsts k.number) a
        began = record {
          before = ends.0;
          head = take head.length all;
          stream = ends.1 ∙ ap (λ (xs : Bytes). ends.0 ++ xs) (sym (take-append-drop head.length all)) ∙ sym (append_assoc ends.0 (take head.length all) (drop head.length all));
          read = ap response_at (take-append-drop head.length all) ∙ whole;
          cut = length-take-le head.length all wide;
          final = is_final;
          ask = was.was;
          asks = was.asks;
          expected = named_first ∙ (front_by s k.line e front).1 ∙ ap (λ n. Some n) was.is.number;
          ruled = ap (λ (t : Bool). rule_of t head.status head.fields) (sym (asks_head_same e was.was was.is)) ∙ ruled;
          version = sym (version_in_same e was.was head was.is);
        }

        -- whatever rows are there then
        module _ (t : State) (there_t : IsIn k t.conns) (ht : Holds (Reading k.number bytes none_apart) t) where
          started : Holds (Reading k.number rest (set_apart k.number a)) (on_conn k.number (answered_by a) t)
          started = one_changed none_apart (set_apart k.number a) k (answered_by a) bytes rest t there_t (λ j. refl) (λ j. refl) (record {
            read = read;
            more = nothing_read;
            past = λ b is. refl;
            shut = λ is. open_still is;
            begun = λ b is. subst (Began (total k.number) rest (asked k.number) (firsts k.number)) (same_in is) began;
            going = λ b is. inr (ap (set_apart k.number) (same_in is));
          }) (none_only k.number) ht

          begin_answer-came : Holds (Reading k.number rest none_apart) (begin_answer k e head rule t)
          unfolding begin_answer end_if_empty
          begin_answer-came = by (body_of rule []).outcome refl
            where
              u : State
              u = by_aim e head rule (on_conn k.number (answered_by a) t)

              hu : Holds (Reading k.number rest (set_apart k.number a)) u
              hu = by_aim-keeps (walk k.number rest (set_apart k.number a)) e head rule _ started

              by : (o : Outcome) → (body_of rule []).outcome ≡ o → Holds (Reading k.number rest none_apart) (elim o as (λ c. State) [ Done left ↦ finish k e a u | Going ↦ u | Bad ↦ u ])
              by (Done left) is = now_shut k.number rest rest (set_apart k.number a) _ read (one_only k.number a) (finish-shut k e a u) (finish-keeps (walk k.number rest (set_apart k.number a)) k e a u hu)
              by Going is = set_down k.number rest a u is hu
              by Bad is = absurd (nothing_bad rule is)

      answer_for-came : (e : Exchange) → front_of_line s k ≡ Some e → (t : State) → IsIn k t.conns → Holds (Reading k.number bytes none_apart) t → Holds (Reading k.number rest none_apart) (answer_for k e head t)
      unfolding answer_for
      answer_for-came e front t there_t ht = when (is_wrong_head e head) (closed_bad t ht) (by (rule_of (asks_head e) head.status head.fields) refl)
        where
          by : (read_as : Result BodyRule ResponseFault) → rule_of (asks_head e) head.status head.fields ≡ read_as → Holds (Reading k.number rest none_apart) (elim read_as as (λ c. State) [ Ok rule ↦ begin_answer k e head rule t | Err fault ↦ bad_head k t ])
          by (Ok rule) is = begin_answer-came e front rule is t there_t ht
          by (Err fault) is = closed_bad t ht

      head_came-came : Holds (Reading k.number rest none_apart) (head_came k head s)
      unfolding head_came
      head_came-came = by (front_of_line s k) refl
        where
          by : (o : Option Exchange) → front_of_line s k ≡ o → Holds (Reading k.number rest none_apart) (elim o as (λ c. State) [ None ↦ close_conn false k s | Some e ↦ answer_for k e head (bring_row e head s) ])
          by None none = closed rest _ read (close_conn-shut false k s) (close_conn-keeps (walk k.number bytes none_apart) false k s h)
          by (Some e) front =
              answer_for-came e front (bring_row e head s) (subst (λ ks. IsIn k ks) (sym (bring_row-untouched e head s).conns) there) (bring_row-keeps (walk k.number bytes none_apart) e head s h)

    -- ---- a piece of it

    module _ (some : 0 < length bytes) where
      quiet : (t : State) → Holds (Shut k.number) t → Holds (Reading k.number bytes none_apart) t → ReadOn k.number bytes (record { state = t; rest = [] })
      quiet t shut g = record { kept = closed [] t nothing_left shut g; less = some }

      whole_less : (head : Response) → response_at all ≡ Whole head → length (drop head.length all) < length bytes
      whole_less head whole = let gt : length k.unread < head.length = head_beyond k.unread bytes head (facts.more k there) whole in omega (arith, some, length-drop head.length all, length-append k.unread bytes)

      head_piece-came : ReadOn k.number bytes (head_piece k bytes s)
      head_piece-came = early (is_early s k)
        where
          final : (head : Response) → response_at all ≡ Whole head → (t : Bool) → is_interim head.status ≡ t → ReadOn k.number bytes (elim t as (λ c. Piece) [
            | true ↦ record { state = on_conn k.number (with_unread []) s; rest = drop head.length all }
            | false ↦ record { state = head_came k head s; rest = drop head.length all }
          ])
          final head whole true is = record { kept = unread_now [] (drop head.length all) nothing_read (behind_head head.length); less = whole_less head whole }
          final head whole false is = record { kept = head_came-came head whole is; less = whole_less head whole }

          by : (read_as : Read Response) → response_at all ≡ read_as → ReadOn k.number bytes (elim read_as as (λ c. Piece) [
            | More ↦ record { state = on_conn k.number (with_unread all) s; rest = [] }
            | TooLong ↦ record { state = bad_head k s; rest = [] }
            | NoHead ↦ record { state = bad_head k s; rest = [] }
            | Whole head ↦ elim (is_interim head.status) as (λ c. Piece) [
              | true ↦ record { state = on_conn k.number (with_unread []) s; rest = drop head.length all }
              | false ↦ record { state = head_came k head s; rest = drop head.length all }
            ]
          ])
          by More is = record { kept = unread_now all [] is (ends.0, ends.1 ∙ ap (λ (xs : Bytes). ends.0 ++ xs) (sym (append-nil all))); less = some }
          by TooLong is = quiet _ (bad_head-shut k s) (bad_head-keeps (walk k.number bytes none_apart) k s h)
          by NoHead is = quiet _ (bad_head-shut k s) (bad_head-keeps (walk k.number bytes none_apart) k s h)
          by (Whole head) is = final head is (is_interim head.status) refl

          early : (t : Bool) → ReadOn k.number bytes (elim t as (λ c. Piece) [ true ↦ record { state = close_conn true k s; rest = [] } | false ↦ head_piece_of k all s ])
          early true = quiet _ (close_conn-shut true k s) (close_conn-keeps (walk k.number bytes none_apart) true k s h)
          early false = by (response_at all) refl

  -- ---- a body

  note_own-came : (n : ℕ) (rest : Bytes) (e : Exchange) (a : Answer) (at : ℕ) (bytes : Bytes) (s : State) → ((v : Version) → a.version ≡ Some v → StandsIn total asked (record { key = key_of e; version = v; at = first_offset a.head + at; bytes = bytes }))
      → Holds (Reading n rest none_apart) s → Holds (Reading n rest none_apart) (note_own e a at bytes s)
  unfolding note_own
  note_own-came n rest e a at bytes s stands h = when (is_empty bytes) h (holds (record {
    stand = λ p i. by a.version refl p i;
    read = was.read;
    more = was.more;
    past = was.past;
    shut = was.shut;
    begun = was.begun;
    going = was.going;
    rise = was.rise;
    from = was.from;
  }))
    where
      was : Reading n rest none_apart (view s)
      was = facts_of h

      by : (o : Option Version) → a.version ≡ o → (p : Sent) → IsIn p (sent_as e (first_offset a.head + at) bytes o s.sent) → StandsIn total asked p
      by None is p i = was.stand p i
      by (Some v) is p (inl eq) = subst (StandsIn total asked) (sym eq) (stands v is)
      by (Some v) is p (inr i) = was.stand p i

  note_sent-came : (n : ℕ) (rest : Bytes) (e : Exchange) (a : Answer) (at : ℕ) (bytes : Bytes) (s : State) → ((v : Version) → a.version ≡ Some v → StandsIn total asked (record { key = key_of e; version = v; at = first_offset a.head + at; bytes = bytes }))
      → Holds (Reading n rest none_apart) s → Holds (Reading n rest none_apart) (note_sent e a at bytes s)
  unfolding note_sent
  note_sent-came n rest e a at bytes s stands h = by_aim_of e.aim h (note_own-came n rest e a at bytes s stands h) (λ v from to. note_own-came n rest e a at bytes s stands h)

  deliver-came : (n : ℕ) (rest : Bytes) (e : Exchange) (a : Answer) (at : ℕ) (bytes : Bytes) (s : State) → ((v : Version) → a.version ≡ Some v → StandsIn total asked (record { key = key_of e; version = v; at = first_offset a.head + at; bytes = bytes }))
      → Holds (Reading n rest none_apart) s → Holds (Reading n rest none_apart) (deliver e a at bytes s)
  unfolding deliver
  deliver-came n rest e a at bytes s stands h = pour-keeps (walk n rest none_apart) e (poured bytes) _ (join_bound-keeps (walk n rest none_apart) e bytes _ (λ v is_evicting chunks g. g) (note_sent-came n rest e a at bytes s stands h))

  module _ (k : Conn) (a : Answer) (bytes : Bytes) (s : State) (there : IsIn k s.conns) (has : k.answer ≡ Some a) (is_open : k.is_closing ≡ false) (some : 0 < length bytes) (h : Holds (Reading k.number bytes none_apart) s) (named_first : firsts k.number ≡ first_of k.line) where
    facts_now : Reading k.number bytes none_apart (view s)
    facts_now = facts_of h

    abbrev text : Bytes
    text = a.raw ++ bytes

    abbrev body : Body
    body = body_of a.rule text

    abbrev at : ℕ
    at = length (payload_of a)

    abbrev fresh : Bytes
    fresh = drop at body.payload

    came_so : Began (total k.number) bytes (asked k.number) (firsts k.number) a
    came_so = subst (λ (e : Bytes). Began (total k.number) e (asked k.number) (firsts k.number) a) (end_here k.number bytes) (facts_now.begun k a there has)

    on : GoesOn a
    on = by (facts_now.going k a there has)
      where
        by : GoesOn a ⊎ (none_apart ≡ Some (k.number, a)) → GoesOn a
        by (inl goes) = goes
        by (inr none) = absurd (cc none)

    no_more : EndsWith (total k.number) []
    no_more = (total k.number, sym (append-nil (total k.number)))

    -- the first of the line is the one whose head came
    same_one : (n m : ℕ) → n ≡ m → first_of k.line ≡ Some n → m ≡ came_so.ask.number
    same_one n m is front = let both : Some n ≡ Some came_so.ask.number = sym front ∙ sym named_first ∙ came_so.expected in let eq : n ≡ came_so.ask.number = cc in sym is ∙ eq

    stands : (e : Exchange) → front_of_line s k ≡ Some e → (v : Version) → a.version ≡ Some v → StandsIn total asked (record { key = key_of e; version = v; at = first_offset a.head + at; bytes = fresh })
    stands e front v version =
        let w = front_by s k.line e front in
        let named = facts_now.from refl k e there w.0 (in_line k.line e.number w.1) in
        record {
          number = k.number;
          before = came_so.before;
          head = came_so.head;
          body = text;
          stream = came_so.stream;
          response = a.head;
          whole = came_so.read;
          cut = came_so.cut;
          final = came_so.final;
          ask = came_so.ask;
          asked = came_so.asks;
          rule = a.rule;
          ruled = came_so.ruled;
          version = came_so.version ∙ version;
          earlier = take at body.payload;
          later = [];
          found = sym (take-append-drop at body.payload) ∙ sym (append-nil (take at body.payload ++ fresh));
          offset = ap (λ n. first_offset a.head + n) (sym (length-take-le at body.payload (payload-grows a.rule a.raw bytes)));
          keyed = named.was;
          keyed_there = named.asks;
          one = same_one e.number named.was.number named.is.number w.1;
          key = ap text_of named.is.key;
        }

    body_piece_of-came : (e : Exchange) → front_of_line s k ≡ Some e → ReadOn k.number bytes (body_piece_of k a e bytes s)
    body_piece_of-came e front = by body.outcome refl
      where
        t : State
        t = deliver e a at fresh s

        ht : Holds (Reading k.number bytes none_apart) t
        ht = deliver-came k.number bytes e a at fresh s (stands e front) h

        there_now : IsIn k t.conns
        there_now = subst (λ (ks : List Conn). IsIn k ks) (sym (deliver-conns e a at fresh s)) there

        longer : Answer
        longer = record a { raw = text }

        goes_on : body.outcome ≡ Going → Holds (Reading k.number [] none_apart) (on_conn k.number (λ i. record i { answer = Some longer }) t)
        goes_on is = one_changed none_apart none_apart k (λ i. record i { answer = Some longer }) bytes [] t there_now (λ j. refl) (λ j. refl) (record {
          read = subst (λ (u : Bytes). EndsWith (total k.number) (u ++ [])) (sym (facts_now.past k a there has)) no_more;
          more = facts_now.more k there;
          past = λ b same_b. facts_now.past k a there has;
          shut = λ closing. let both : false ≡ true = sym is_open ∙ closing in absurd (cc both);
          begun = λ b same_b. subst (Began (total k.number) [] (asked k.number) (firsts k.number)) (same_in same_b) (record {
            before = came_so.before;
            head = came_so.head;
            stream = came_so.stream ∙ ap (λ (xs : Bytes). came_so.before ++ came_so.head ++ xs) (sym (append-nil text));
            read = ap (λ (xs : Bytes). response_at (came_so.head ++ xs)) (append-nil text) ∙ came_so.read;
            cut = came_so.cut;
            final = came_so.final;
            ask = came_so.ask;
            asks = came_so.asks;
            expected = came_so.expected;
            ruled = came_so.ruled;
            version = came_so.version;
          });
          going = λ b same_b. inl (subst GoesOn (same_in same_b) is);
        }) (none_only k.number) ht

        done : (after : Bytes) → body.outcome ≡ Done after → EndsWith (total k.number) after
        done after is =
            let used = done_ends a.rule text after is in
            (came_so.before ++ came_so.head ++ used.0, came_so.stream ∙ ap (λ (xs : Bytes). came_so.before ++ came_so.head ++ xs) used.1 ∙ sym (append_assoc (came_so.before ++ came_so.head) used.0 after))

        by : (o : Outcome) → body.outcome ≡ o → ReadOn k.number bytes (elim o as (λ c. Piece) [
          | Going ↦ record { state = on_conn k.number (λ i. record i { answer = Some longer }) t; rest = [] }
          | Bad ↦ record { state = bad_response k t; rest = [] }
          | Done after ↦ record { state = finish k e a t; rest = after }
        ])
        by Going is = record { kept = goes_on is; less = some }
        by Bad is = record { kept = now_shut k.number bytes [] none_apart _ no_more (none_only k.number) (bad_response-shut k t) (bad_response-keeps (walk k.number bytes none_apart) k t ht); less = some }
        by (Done after) is = record { kept = now_shut k.number bytes after none_apart _ (done after is) (none_only k.number) (finish-shut k e a t) (finish-keeps (walk k.number bytes none_apart) k e a t ht); less = body_less a.rule a.raw bytes after on is }

    body_piece-came : ReadOn k.number bytes (body_piece k a bytes s)
    body_piece-came = by (front_of_line s k) refl
      where
        by : (o : Option Exchange) → front_of_line s k ≡ o → ReadOn k.number bytes (elim o as (λ c. Piece) [ None ↦ record { state = close_conn false k s; rest = [] } | Some e ↦ body_piece_of k a e bytes s ])
        by None none = record { kept = now_shut k.number bytes [] none_apart _ no_more (none_only k.number) (close_conn-shut false k s) (close_conn-keeps (walk k.number bytes none_apart) false k s h); less = some }
        by (Some e) front = body_piece_of-came e front

  pub next_piece-came : (k : Conn) (bytes : Bytes) (s : State) → IsIn k s.conns → k.is_closing ≡ false → 0 < length bytes → Holds (Reading k.number bytes none_apart) s → firsts k.number ≡ first_of k.line → ReadOn k.number bytes (next_piece k bytes s)
  next_piece-came k bytes s there is_open some h named_first = by k.answer refl
    where
      by : (o : Option Answer) → k.answer ≡ o → ReadOn k.number bytes (elim o as (λ c. Piece) [ Some a ↦ body_piece k a bytes s | None ↦ head_piece k bytes s ])
      by None none = head_piece-came k bytes s there none is_open h named_first some
      by (Some a) has = body_piece-came k a bytes s there has is_open some h named_first

  -- ---- the read

  pub stopped : (n : ℕ) (bytes : Bytes) (s : State) → Holds (Shut n) s → Holds (Reading n bytes none_apart) s → Holds (Reading n [] none_apart) s
  stopped n bytes s shut h = now_shut n bytes [] none_apart s (total n, sym (append-nil (total n))) (none_only n) shut h

  pub nobody_there : (n : ℕ) (s : State) → conn s n ≡ None → Holds (Shut n) s
  nobody_there n s none = holds (λ k i is. let both : true ≡ false = sym (number_same n) ∙ ap (λ m. m == n) (sym is) ∙ not_found n s.conns k none i in absurd (cc both))

  pub closing_there : (n : ℕ) (k : Conn) (bytes : Bytes) (s : State) → IsIn k s.conns → k.number ≡ n → k.is_closing ≡ true → Holds (Reading n bytes none_apart) s → Holds (Shut n) s
  closing_there n k bytes s there number closing h = holds (λ j i is. let e : j ≡ k = one_of conn_number s.conns j k ((facts_of h).rise refl) i there (is ∙ sym number) in subst (λ (x : Conn). (x.answer ≡ None) × (x.unread ≡ [])) (sym e) ((facts_of h).shut k there closing))
  -- ---- one piece behind the other

pub record HasRead (total : ℕ → Bytes) (asked : ℕ → Exchange → Type 0) (b : Since) (n : ℕ) (s : State) : Type 0 where
  pub firsts : ℕ → Option ℕ
  pub lines : Lined (record b { firsts = firsts }) s
  pub came : Holds (Reading total asked firsts n [] none_apart) s

module _ (total : ℕ → Bytes) (asked : ℕ → Exchange → Type 0) where
  all_read : (b : Since) (n : ℕ) (s : State) → IsPlain b → Lined b s → Holds (Reading total asked b.firsts n [] none_apart) s → HasRead total asked b n s
  all_read b n s p l h = record { firsts = b.firsts; lines = same_names s p l; came = h }

  read_piece : (more n : ℕ) (bytes : Bytes) (b : Since) (s : State) (k : Conn) → length bytes ≤ suc more → IsPlain b → IsIn k s.conns → k.number ≡ n → k.is_closing ≡ false → 0 < length bytes → Lined b s → Holds (Reading total asked b.firsts n bytes none_apart) s
      → ((c : Since) (rest : Bytes) (u : State) → length rest ≤ more → IsPlain c → Lined c u → Holds (Reading total asked c.firsts n rest none_apart) u → HasRead total asked c n (got more n rest u)) → HasRead total asked b n (got more n (next_piece k bytes s).rest (next_piece k bytes s).state)
  read_piece more n bytes b s k le p there number is_open some l h later = by k.answer refl (next_piece-lined k bytes s p there is_open l)
    where
      here : Holds (Reading total asked b.firsts k.number bytes none_apart) s
      here = subst (λ m. Holds (Reading total asked b.firsts m bytes none_apart) s) (sym number) h

      unanswered : k.answer ≡ None → (j : Conn) (a : Answer) → IsIn j s.conns → j.number ≡ k.number → j.answer ≡ Some a → ⊥
      unanswered none j a i same_n is =
          let it : j ≡ k = one_of conn_number s.conns j k (lines_of l).apart i there same_n in
          let both : None ≡ Some a = sym (ap (λ (x : Conn). x.answer) it ∙ none) ∙ is in cc both

      by : (o : Option Answer) → k.answer ≡ o → Lined (elim o as (λ x. Since) [ Some a ↦ b | None ↦ naming b k.number (first_of k.line) ]) (next_piece k bytes s).state → HasRead total asked b n (got more n (next_piece k bytes s).rest (next_piece k bytes s).state)
      by None none lu =
          let c : Since = naming b k.number (first_of k.line) in
          let w = next_piece-came total asked (naming b k.number (first_of k.line)).firsts k bytes s there is_open some (holds (came_named total (at_end k.number bytes) asked b.firsts true none_apart k.number (first_of k.line) (view s) (unanswered none) (facts_of here))) (named_here b k.number (first_of k.line)) in
          let less : length (next_piece k bytes s).rest < length bytes = w.less in
          let r = later (naming b k.number (first_of k.line)) (next_piece k bytes s).rest (next_piece k bytes s).state (omega arith) (plain_named k.number (first_of k.line) p) lu (subst (λ m. Holds (Reading total asked (naming b k.number (first_of k.line)).firsts m (next_piece k bytes s).rest none_apart) (next_piece k bytes s).state) number w.kept) in
          record { firsts = r.firsts; lines = r.lines; came = r.came }
      by (Some a) has lu =
          let heads = (lines_of l).answers k a there has (λ is. let both : None ≡ Some k.number = sym p.but ∙ is in cc both) in
          let w = next_piece-came total asked b.firsts k bytes s there is_open some here (heads.expected ∙ sym heads.first) in
          let less : length (next_piece k bytes s).rest < length bytes = w.less in
          later b (next_piece k bytes s).rest (next_piece k bytes s).state (omega arith) p lu (subst (λ m. Holds (Reading total asked b.firsts m (next_piece k bytes s).rest none_apart) (next_piece k bytes s).state) number w.kept)

  pub got-came : (more n : ℕ) (bytes : Bytes) (b : Since) (s : State) → length bytes ≤ more → IsPlain b → Lined b s → Holds (Reading total asked b.firsts n bytes none_apart) s → HasRead total asked b n (got more n bytes s)
  unfolding got
  got-came zero n [] b s le p l h = all_read b n s p l h
  got-came zero n (x ∷ bytes) b s le p l h = let none : ⊥ = omega arith in absurd none
  got-came (suc more) n bytes b s le p l h = by (conn s n) refl (λ c rest u le2 q lu hu. got-came more n rest c u le2 q lu hu)
    where
      reads_on : (k : Conn) → conn s n ≡ Some k → (closing : Bool) → k.is_closing ≡ closing → (xs : Bytes) → bytes ≡ xs
          → ((c : Since) (rest : Bytes) (u : State) → length rest ≤ more → IsPlain c → Lined c u → Holds (Reading total asked c.firsts n rest none_apart) u → HasRead total asked c n (got more n rest u))
          → HasRead total asked b n (elim (closing || is_empty xs) as (λ c. State) [ true ↦ s | false ↦ got more n (next_piece k bytes s).rest (next_piece k bytes s).state ])
      reads_on k found true is xs same_xs later = let there = in_find (is_conn n) k s.conns found in all_read b n s p l (stopped total asked b.firsts n bytes s (closing_there total asked b.firsts n k bytes s there.0 (same_number k.number n there.1) is h) h)
      reads_on k found false is [] same_xs later = all_read b n s p l (subst (λ (ys : Bytes). Holds (Reading total asked b.firsts n ys none_apart) s) same_xs h)
      reads_on k found false is (x ∷ xs) same_xs later =
          let there = in_find (is_conn n) k s.conns found in
          let long : length bytes ≡ length (x ∷ xs) = ap (λ (ys : Bytes). length ys) same_xs in
          read_piece more n bytes b s k le p there.0 (same_number k.number n there.1) is (omega arith) l h later

      by : (o : Option Conn) → conn s n ≡ o → ((c : Since) (rest : Bytes) (u : State) → length rest ≤ more → IsPlain c → Lined c u → Holds (Reading total asked c.firsts n rest none_apart) u → HasRead total asked c n (got more n rest u))
          → HasRead total asked b n (elim o as (λ c. State) [ None ↦ s | Some k ↦ elim (k.is_closing || is_empty bytes) as (λ c. State) [ true ↦ s | false ↦ got more n (next_piece k bytes s).rest (next_piece k bytes s).state ] ])
      by None none later = all_read b n s p l (stopped total asked b.firsts n bytes s (nobody_there total asked b.firsts n s none) h)
      by (Some k) found later = reads_on k found k.is_closing refl bytes refl later
