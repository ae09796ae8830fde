-- Who is shut leaves what was asked for the others.
use Rattle.std.proofs.Common.{◌≡◌, refl, ℕ, ◌+◌, ◌*◌, ◌/◌, ◌%◌, nat_lt, nat_le, min, Bool, true, false, not, ◌==◌, ◌&&◌, ◌||◌, List, [], ◌∷◌, map, filter, cond, length, Option, Some, None, inl, inr, sym, subst, ap, ap₂, ◌∙◌}
use Rattle.std.specs.List.{list_any}
use Rattle.pp_law.specs.After.{shut}
use Rattle.pp_law.specs.Chunks.{chunk_bytes, chunk_len, is_chunk}
use Rattle.pp_law.specs.Closing.{close_client, exchanges_of, is_of, leave_one}
use Rattle.pp_law.specs.Connections.{each_exchange, is_client, is_trying, on_client}
use Rattle.pp_law.specs.Lists.{Bytes, change, is_some_with, is_this}
use Rattle.pp_law.specs.Stages.{bound_of, reply_of}
use Rattle.pp_law.specs.State.{State, Chunk, Client, Exchange, Instance}
use Rattle.pp_law.specs.Table.{Next, asks_for, brings, extent_of, follows, instance, is_chunk_of_any, is_followed, is_instance, is_left_over, is_provided, is_soon, next_in, next_of, swept}
use Rattle.pp_laws.specs.Numbers.{AreDistinct}
use Rattle.pp_laws.specs.Runs.{IsIn}
use Rattle.pp_laws.proofs.Lists.{Changed, changed_at, in_change, in_filter, in_find, other, same, the_one}
use Rattle.pp_laws.proofs.Sound.{facts_of as sound_facts, instance_id}
use Rattle.pp_laws.proofs.Tests.{first_holds, same_number}
use Rattle.pp_laws_bounds.proofs.Counts.{in_filter_of, in_map_of}
use Rattle.pp_laws_turn.proofs.Counts.{find_in}
use Rattle.pp_laws_turn.proofs.Laws.{has_asker}
use Rattle.pp_laws_turn.proofs.Lifts.{turn_on}
use Rattle.pp_laws_turn.proofs.View.{facts_of as turn_facts}
use Rattle.pp_obeys.proofs.Obeying.{obeys_good}
use Rattle.pp_laws_ends.proofs.Wanted.{any_of}
use Rattle.pp_laws_served.specs.Filling.{IsAsked, IsReady, ShutsKeepReady}
use Rattle.pp_laws_served.proofs.Begins.{find_fewer, find_kept, none_any, stands}
use Rattle.pp_laws_served.proofs.Parts.{Parts, follows_it, next_by, parts_of}

-- ---- rows that nobody follows any more are swept

abbrev IsFollowedIn : State → Instance → Type 0
IsFollowedIn w x = (c : Client) × IsIn c w.clients × (follows x.id c ≡ true)

module _ (w : State) (differ : AreDistinct (map instance_id w.instances)) where
  stays_in : (x : Instance) → IsFollowedIn w x → not (is_left_over w x) ≡ true
  stays_in x f = stands x.is_retired (is_followed w x.id) (any_of (follows x.id) f.0 w.clients f.1 f.2)

  row_swept : (id : ℕ) (x : Instance) → IsFollowedIn w x → instance w id ≡ Some x → instance (swept w) id ≡ Some x
  unfolding swept
  row_swept id x f found = find_kept (is_instance id) (λ y. not (is_left_over w y)) w.instances x found (stays_in x f)

  row_back : (id : ℕ) (x : Instance) → instance (swept w) id ≡ Some x → instance w id ≡ Some x
  unfolding swept
  row_back id x found =
      let v = in_find (is_instance id) x (filter (λ y. not (is_left_over w y)) w.instances) found in
      let j = (in_filter (λ y. not (is_left_over w y)) x w.instances v.0).0 in
      let is = same_number x.id id v.1 in
      let y = find_in instance_id id x w.instances j is in
      let u = in_find (is_instance id) y.0 w.instances y.1 in
      y.1 ∙ ap (λ (z : Instance). Some z) (the_one instance_id w.instances y.0 x differ u.0 j (same_number y.0.id id u.1 ∙ sym is))

  bytes_swept : (x : Instance) → IsIn x w.instances → IsFollowedIn w x → (i : ℕ) → chunk_bytes x.id i (swept w).chunks ≡ chunk_bytes x.id i w.chunks
  unfolding swept
  bytes_swept x there f i =
      ap (λ o. elim o as (λ y. Bytes) [ None ↦ [] | Some c ↦ c.bytes ])
      (find_fewer (is_chunk x.id i) (λ c. not (is_chunk_of_any (filter (is_left_over w) w.instances) c)) w.chunks
      (λ c is. ap not (none_any (is_instance c.instance) (filter (is_left_over w) w.instances) (λ y j hit. never c y j hit (same_number c.instance x.id (first_holds (c.instance == x.id) (c.index == i) is))))))
    where
      never : (c : Chunk) (y : Instance) → IsIn y (filter (is_left_over w) w.instances) → is_instance c.instance y ≡ true → c.instance ≡ x.id → ⊥
      never c y j hit is =
          let v = in_filter (is_left_over w) y w.instances j in
          let eq : y ≡ x = the_one instance_id w.instances y x differ v.0 there (same_number y.id c.instance hit ∙ is) in
          let both : false ≡ true = sym (ap not (sym (ap (is_left_over w) eq) ∙ v.1)) ∙ stays_in x f in cc both

  brings_swept : (x : Instance) → IsIn x w.instances → IsFollowedIn w x → (at : ℕ) (e : Exchange) → brings (swept w) x at e ≡ brings w x at e
  brings_swept x there f at e =
      ap (λ (l : Bytes). elim (bound_of e) as (λ y. Bool) [
        | Some b ↦ (b.instance == x.id) && nat_lt at b.to && is_soon b at && nat_le b.next (min at (at / chunk_len * chunk_len + length l))
        | None ↦ asks_for x at e
      ]) (bytes_swept x there f (at / chunk_len))

  any_alike : (p q : Exchange → Bool) → ((e : Exchange) → p e ≡ q e) → (es : List Exchange) → list_any p es ≡ list_any q es
  any_alike p q alike [] = refl
  any_alike p q alike (e ∷ es) = ap₂ (λ (a b : Bool). a || b) (alike e) (any_alike p q alike es)

  provided_swept : (x : Instance) → IsIn x w.instances → IsFollowedIn w x → (at to : ℕ) → is_provided (swept w) (record { source = x; at = at; to = to }) ≡ is_provided w (record { source = x; at = at; to = to })
  unfolding swept
  provided_swept x there f at to =
      ap₂ (λ (l : Bytes) (b : Bool). (nat_lt at (extent_of w x) || nat_lt (at % chunk_len) (length l)) || b) (bytes_swept x there f (at / chunk_len))
      (any_alike (brings (swept w) x at) (brings w x at) (λ e. brings_swept x there f at e) w.exchanges)

  next_swept : (c : Client) (n : Next) → IsIn c w.clients → next_of w c ≡ Some n → next_of (swept w) c ≡ Some n
  next_swept c n i is =
      let p = parts_of w c n is in
      next_by (swept w) c p.reply p.id p.row p.going p.is p.source (row_swept p.id p.row (c, i, follows_it w c n p) p.there) p.within ∙ ap (λ m. Some m) p.next

  next_back : (c : Client) (n : Next) → next_of (swept w) c ≡ Some n → next_of w c ≡ Some n
  next_back c n is =
      let p = parts_of (swept w) c n is in
      next_by w c p.reply p.id p.row p.going p.is p.source (row_back p.id p.row p.there) p.within ∙ ap (λ m. Some m) p.next

  row_there : (c : Client) (n : Next) (p : Parts w c n) → IsIn p.row w.instances
  row_there c n p = (in_find (is_instance p.id) p.row w.instances p.there).0

  pub swept_asked : (e : Exchange) → IsAsked w e → IsAsked (swept w) e
  unfolding swept
  swept_asked e a = by (next_of w a.client) refl a.brings_it
    where
      by : (o : Option Next) → next_of w a.client ≡ o → is_some_with (λ n. brings w n.source n.at e) o ≡ true → IsAsked (swept w) e
      by None none at = absurd (cc at)
      by (Some n) some at =
          let p = parts_of w a.client n some in
          record {
            client = a.client;
            there = a.there;
            its = a.its;
            brings_it = ap (λ o. is_some_with (λ (m : Next). brings (swept w) m.source m.at e) o) (next_swept a.client n a.there some)
                ∙ ap (λ (m : Next). brings (swept w) m.source m.at e) (sym p.next) ∙ brings_swept p.row (row_there a.client n p) (a.client, a.there, follows_it w a.client n p) p.reply.at e ∙ ap (λ (m : Next). brings w m.source m.at e) p.next ∙ at;
          }

  pub swept_ready : IsReady w → IsReady (swept w)
  unfolding swept
  swept_ready h = record {
    filled = λ c n i is tries stands_it. filled_by c n i (next_back c n is) (h.filled c n i (next_back c n is) tries stands_it);
    asked = λ e i none fills_it. swept_asked e (h.asked e i none fills_it);
  }
    where
      filled_by : (c : Client) (n : Next) → IsIn c w.clients → next_of w c ≡ Some n → is_provided w n ≡ true → is_provided (swept w) n ≡ true
      filled_by c n i is on =
          let p = parts_of w c n is in
          subst (λ (m : Next). is_provided (swept w) m ≡ true) p.next
          (provided_swept p.row (row_there c n p) (c, i, follows_it w c n p) p.reply.at p.reply.to ∙ subst (λ (m : Next). is_provided w m ≡ true) (sym p.next) on)

-- ---- who is closing follows nothing

closed_next : (u : State) (c : Client) → c.is_closing ≡ true → next_of u c ≡ None
closed_next u c closing = ap (λ b. elim b as (λ y. Option Next) [ true ↦ None | false ↦ elim (reply_of c) as (λ z. Option Next) [ None ↦ None | Some r ↦ next_in u r ] ]) closing

abbrev shutting : Client → Client
shutting c = record c { is_closing = true; is_cut = c.is_cut || false }

module _ (n : ℕ) (s : State) (closing : (c : Client) → IsIn c s.clients → c.number ≡ n → c.is_closing ≡ true) (h : IsReady s) where
  going_is : (c : Client) (m : Next) → IsIn c s.clients → next_of s c ≡ Some m → is_client n c ≡ false
  going_is c m i is = by (is_client n c) refl
    where
      by : (b : Bool) → is_client n c ≡ b → is_client n c ≡ false
      by false off = off
      by true on = let both : Some m ≡ None = sym is ∙ closed_next s c (closing c i (same_number c.number n on)) in absurd (cc both)

  shutting_ready : IsReady (record s { clients = change (is_client n) shutting s.clients })
  shutting_ready = record {
    filled = λ c m i is tries stands_it. filled_by c m (in_change (is_client n) shutting c s.clients i) is tries stands_it;
    asked = λ e i none fills_it. asked_by e (h.asked e i none fills_it);
  }
    where
      filled_by : (c : Client) (m : Next) → Changed (is_client n) shutting s.clients c → next_of s c ≡ Some m → is_trying c.course ≡ true → m.source.is_retired ≡ false → is_provided s m ≡ true
      filled_by c m (same i isnt) is tries stands_it = h.filled c m i is tries stands_it
      filled_by c m (other d i hit eq) is tries stands_it = let both : Some m ≡ None = sym is ∙ closed_next s c (ap (λ (y : Client). y.is_closing) eq) in absurd (cc both)

      asked_by : (e : Exchange) → IsAsked s e → IsAsked (record s { clients = change (is_client n) shutting s.clients }) e
      asked_by e a = by (next_of s a.client) refl a.brings_it
        where
          by : (o : Option Next) → next_of s a.client ≡ o → is_some_with (λ m. brings s m.source m.at e) o ≡ true → IsAsked (record s { clients = change (is_client n) shutting s.clients }) e
          by None none at = absurd (cc at)
          by (Some m) some at = record {
            client = a.client;
            there = subst (λ (b : Bool). IsIn (elim b as (λ y. Client) [ true ↦ shutting a.client | false ↦ a.client ]) (change (is_client n) shutting s.clients)) (going_is a.client m a.there some) (in_map_of (changed_at (is_client n) shutting) a.client s.clients a.there);
            its = a.its;
            brings_it = a.brings_it;
          }

fewer_ready : (n : ℕ) (w : State) → ((c : Client) → IsIn c w.clients → is_client n c ≡ true → c.is_closing ≡ true) → IsReady w → IsReady (record w { clients = filter (λ c. not (is_client n c)) w.clients })
fewer_ready n w closing h = record {
  filled = λ c m i is tries stands_it. h.filled c m (in_filter (λ d. not (is_client n d)) c w.clients i).0 is tries stands_it;
  asked = λ e i none fills_it. asked_by e (h.asked e i none fills_it);
}
  where
    asked_by : (e : Exchange) → IsAsked w e → IsAsked (record w { clients = filter (λ c. not (is_client n c)) w.clients }) e
    asked_by e a = by (is_client n a.client) refl
      where
        by : (b : Bool) → is_client n a.client ≡ b → IsAsked (record w { clients = filter (λ c. not (is_client n c)) w.clients }) e
        by true on = let off : false ≡ true = sym (ap (λ o. is_some_with (λ (m : Next). brings w m.source m.at e) o) (closed_next w a.client (closing a.client a.there on))) ∙ a.brings_it in absurd (cc off)
        by false off = record { client = a.client; there = in_filter_of (λ c. not (is_client n c)) a.client w.clients a.there (ap not off); its = a.its; brings_it = a.brings_it }

-- ---- all of it

none_of_it : (n : ℕ) (es : List Exchange) → ((e : Exchange) → IsIn e es → is_of n e ≡ true → ⊥) → filter (is_of n) es ≡ []
none_of_it n [] none = refl
none_of_it n (e ∷ es) none = by (is_of n e) refl (none_of_it n es (λ d i. none d (inr i)))
  where
    by : (b : Bool) → is_of n e ≡ b → filter (is_of n) es ≡ [] → cond b (e ∷ filter (is_of n) es) (filter (is_of n) es) ≡ []
    by true on rest = absurd (none e (inl refl) on)
    by false off rest = rest

shut_is : (n : ℕ) (s : State) → exchanges_of n s ≡ [] → close_client n false s ≡ swept (record s { clients = change (is_client n) shutting s.clients })
unfolding close_client on_client each_exchange
shut_is n s none = ap (λ (ns : List ℕ). swept (each_exchange leave_one ns (record s { clients = change (is_client n) shutting s.clients }))) none

swept_clients : (w : State) → (swept w).clients ≡ w.clients
unfolding swept
swept_clients w = refl

pub shuts_keep : ShutsKeepReady
unfolding shut
shuts_keep terms s log obeys n closing ready =
    subst (λ (t : State). IsReady (record t { clients = filter (λ c. not (is_client n c)) t.clients })) (sym (shut_is n s (ap (λ es. map (λ (e : Exchange). e.number) es) (none_of_it n s.exchanges never))))
    (fewer_ready n (swept closed) at_closed (swept_ready closed (sound_facts (obeys_good obeys).sound).rows.differ (shutting_ready n s closing ready)))
  where
    closed : State
    closed = record s { clients = change (is_client n) shutting s.clients }

    its : (e : Exchange) (o : Option ℕ) → e.asker ≡ o → is_this n o ≡ true → e.asker ≡ Some n
    its e None none at = absurd (cc at)
    its e (Some m) some at = some ∙ ap (λ k. Some k) (same_number m n at)

    never : (e : Exchange) → IsIn e s.exchanges → is_of n e ≡ true → ⊥
    never e i on =
        let a = has_asker s (sound_facts (obeys_good obeys).sound).callers.rise (turn_facts (turn_on terms s log obeys)) e n i (its e e.asker refl on) in
        let w = in_find (is_client n) a.asker s.clients a.there in
        let both : true ≡ false = sym (closing a.asker w.0 (same_number a.asker.number n w.1)) ∙ a.going in cc both

    at_closed : (c : Client) → IsIn c (swept closed).clients → is_client n c ≡ true → c.is_closing ≡ true
    at_closed c i on = by (in_change (is_client n) shutting c s.clients (subst (λ (cs : List Client). IsIn c cs) (swept_clients closed) i))
      where
        by : Changed (is_client n) shutting s.clients c → c.is_closing ≡ true
        by (same j isnt) = let both : true ≡ false = sym on ∙ isnt in absurd (cc both)
        by (other d j hit eq) = ap (λ (y : Client). y.is_closing) eq
