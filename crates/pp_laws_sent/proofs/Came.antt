-- What each step of the law keeps of what came on connections: how far it was read, and what of it is on record.
use Rattle.std.proofs.Common.{◌≡◌, ◌⊎◌, refl, ℕ, Bool, true, false, ◌==◌, List, [], ◌∷◌, ◌++◌, map, filter, length, Option, Some, None, Ok, inl, inr, sym, subst, ap, ◌∙◌, append_assoc}
use Rattle.std.proofs.lemmas.List.{append-nil}
use Rattle.pp_framing.specs.Framing.{rule_of}
use Rattle.pp_head.specs.Read.{Whole, More}
use Rattle.pp_head.specs.Response.{response_at}
use Rattle.pp_pipe.specs.Front.{is_interim}
use Rattle.pp_law.specs.Closing.{left_alone}
use Rattle.pp_law.specs.Connections.{is_conn, is_exchange, on_conn, on_exchange, put_on, unplaced}
use Rattle.pp_law.specs.Deciding.{add_exchange, begin_exchange}
use Rattle.pp_law.specs.Closing.{forsake, leave}
use Rattle.pp_law.specs.Lists.{Bytes, change}
use Rattle.pp_law.specs.OwnHeads.{version_in}
use Rattle.pp_law.specs.Responses.{asks_head}
use Rattle.pp_law.specs.State.{Sent, Answer, Conn, Exchange}
use Rattle.pp_laws.specs.Numbers.{AreRising}
use Rattle.pp_laws.specs.Runs.{IsIn}
use Rattle.pp_laws.proofs.Lists.{changed_at, in_filter, in_map, in_push, rise_map}
use Rattle.pp_laws.proofs.Sound.{conn_number}
use Rattle.pp_laws.proofs.Tests.{same_number}
use Rattle.pp_laws_pool.proofs.PoolFacts.{GoesOn, nothing_read}
use Rattle.pp_laws_pool.proofs.View.{View, Walk, Places, Begins, view, Lesser}
use Rattle.pp_laws_sent.specs.Stands.{StandsIn}
use Rattle.pp_laws_passed.proofs.Delivered.{payload_more}
use Rattle.pp_laws_sent.proofs.Bodies.{whole_more}

-- ---- definitions

abbrev pub EndsWith : Bytes → Bytes → Type 0
EndsWith whole end = (before : Bytes) × (whole ≡ before ++ end)

-- the head of an answer came, and behind it what was read of its body, and then this end
pub record Began (whole end : Bytes) (asked : Exchange → Type 0) (expects : Option ℕ) (a : Answer) : Type 0 where
  pub before : Bytes
  pub head : Bytes
  pub stream : whole ≡ before ++ head ++ (a.raw ++ end)
  pub read : response_at (head ++ (a.raw ++ end)) ≡ Whole a.head
  pub cut : length head ≡ a.head.length
  pub final : is_interim a.head.status ≡ false
  pub ask : Exchange
  pub asks : asked ask
  pub expected : expects ≡ Some ask.number
  pub ruled : rule_of (asks_head ask) a.head.status a.head.fields ≡ Ok a.rule
  pub version : version_in ask a.head ≡ a.version

-- an exchange as it was asked
pub record Alike (e d : Exchange) : Type 0 where
  pub number : e.number ≡ d.number
  pub key : e.key ≡ d.key
  pub head : e.head ≡ d.head
  pub aim : e.aim ≡ d.aim

pub record WasAsked (asked : Exchange → Type 0) (e : Exchange) : Type 0 where
  pub was : Exchange
  pub asks : asked was
  pub is : Alike e was

-- of all that came, this end was not read. While a connection is read, each exchange of its line is one that was asked
pub record Facts (total end : ℕ → Bytes) (asked : ℕ → Exchange → Type 0) (firsts : ℕ → Option ℕ) (reads : Bool) (but : Option (ℕ × Answer)) (sent : List Sent) (conns : List Conn) (exchanges : List Exchange) : Type 0 where
  pub stand : (p : Sent) → IsIn p sent → StandsIn total asked p
  pub read : (k : Conn) → IsIn k conns → EndsWith (total k.number) (k.unread ++ end k.number)
  pub more : (k : Conn) → IsIn k conns → response_at k.unread ≡ More
  pub past : (k : Conn) (a : Answer) → IsIn k conns → k.answer ≡ Some a → k.unread ≡ []
  pub shut : (k : Conn) → IsIn k conns → k.is_closing ≡ true → (k.answer ≡ None) × (k.unread ≡ [])
  pub begun : (k : Conn) (a : Answer) → IsIn k conns → k.answer ≡ Some a → Began (total k.number) (end k.number) (asked k.number) (firsts k.number) a
  pub going : (k : Conn) (a : Answer) → IsIn k conns → k.answer ≡ Some a → GoesOn a ⊎ (but ≡ Some (k.number, a))
  pub rise : reads ≡ true → AreRising (map conn_number conns)
  pub from : reads ≡ true → (k : Conn) (e : Exchange) → IsIn k conns → IsIn e exchanges → IsIn e.number k.line → WasAsked (asked k.number) e

abbrev pub Came : (ℕ → Bytes) → (ℕ → Bytes) → (ℕ → Exchange → Type 0) → (ℕ → Option ℕ) → Bool → Option (ℕ × Answer) → View → Type 0
Came total end asked firsts reads but v = Facts total end asked firsts reads but v.sent v.conns v.exchanges

abbrev pub no_end : ℕ → Bytes
no_end n = []

abbrev pub none_apart : Option (ℕ × Answer)
none_apart = None

pub alike_on : (e d c : Exchange) → Alike e d → Alike d c → Alike e c
alike_on e d c one two = record { number = one.number ∙ two.number; key = one.key ∙ two.key; head = one.head ∙ two.head; aim = one.aim ∙ two.aim }

pub alike_asked : {asked : Exchange → Type 0} (e d : Exchange) → Alike e d → WasAsked asked d → WasAsked asked e
alike_asked e d so w = record { was = w.was; asks = w.asks; is = alike_on e d w.was so w.is }

pub of_map : (P : Conn → Type 0) (f : Conn → Conn) (ks : List Conn) → ((j : Conn) → IsIn j ks → P (f j)) → (k : Conn) → IsIn k (map f ks) → P k
of_map P f ks each k i = let r = in_map f k ks i in subst P (sym r.is) (each r.was r.there)

-- ---- what is kept

-- with its number, and the same answer and unread bytes, or none
pub record Still (j k : Conn) : Type 0 where
  pub number : j.number ≡ k.number
  pub answer : (j.answer ≡ k.answer) ⊎ (j.answer ≡ None)
  pub unread : (j.unread ≡ k.unread) ⊎ (j.unread ≡ [])
  pub closing : (j.is_closing ≡ k.is_closing) ⊎ ((j.answer ≡ None) × (j.unread ≡ []))

module _ (total end : ℕ → Bytes) (asked : ℕ → Exchange → Type 0) (firsts : ℕ → Option ℕ) (reads : Bool) (but : Option (ℕ × Answer)) where
  abbrev Here : View → Type 0
  Here v = Came total end asked firsts reads but v

  pub conns_kept : (f : Conn → Conn) → ((k : Conn) → Still (f k) k) → (reads ≡ true → (k : Conn) (n : ℕ) → IsIn n (f k).line → IsIn n k.line) → (v : View) → Came total end asked firsts reads but v → Came total end asked firsts reads but (record v { conns = map f v.conns })
  conns_kept f still within v h = record {
    stand = h.stand;
    read = of_map (λ (x : Conn). EndsWith (total x.number) (x.unread ++ end x.number)) f v.conns (λ j i. read_by j i (still j).unread);
    more = of_map (λ (x : Conn). response_at x.unread ≡ More) f v.conns (λ j i. more_by j i (still j).unread);
    past = λ k a i. of_map (λ (x : Conn). x.answer ≡ Some a → x.unread ≡ []) f v.conns (λ j i2. past_by a j i2 (still j).answer (still j).unread) k i;
    shut = of_map (λ (x : Conn). x.is_closing ≡ true → (x.answer ≡ None) × (x.unread ≡ [])) f v.conns (λ j i. shut_by j i (still j).closing);
    begun = λ k a i. of_map (λ (x : Conn). x.answer ≡ Some a → Began (total x.number) (end x.number) (asked x.number) (firsts x.number) a) f v.conns (λ j i2. begun_by a j i2 (still j).answer) k i;
    going = λ k a i. of_map (λ (x : Conn). x.answer ≡ Some a → GoesOn a ⊎ (but ≡ Some (x.number, a))) f v.conns (λ j i2. going_by a j i2 (still j).answer) k i;
    rise = λ on. rise_map conn_number f (λ k. (still k).number) v.conns (h.rise on);
    from = λ on k e i j. of_map (λ (x : Conn). IsIn e.number x.line → WasAsked (asked x.number) e) f v.conns (λ g i2 l. subst (λ n. WasAsked (asked n) e) (sym (still g).number) (h.from on g e i2 j (within on g e.number l))) k i;
  }
    where
      read_by : (j : Conn) → IsIn j v.conns → ((f j).unread ≡ j.unread) ⊎ ((f j).unread ≡ []) → EndsWith (total (f j).number) ((f j).unread ++ end (f j).number)
      read_by j i (inl e) = let w = h.read j i in subst (λ n. EndsWith (total n) ((f j).unread ++ end n)) (sym (still j).number) (w.0, subst (λ u. total j.number ≡ w.0 ++ (u ++ end j.number)) (sym e) w.1)
      read_by j i (inr none) =
          let w = h.read j i in
          subst (λ n. EndsWith (total n) ((f j).unread ++ end n)) (sym (still j).number)
          (w.0 ++ j.unread, subst (λ u. total j.number ≡ (w.0 ++ j.unread) ++ (u ++ end j.number)) (sym none) (w.1 ∙ sym (append_assoc w.0 j.unread (end j.number))))

      more_by : (j : Conn) → IsIn j v.conns → ((f j).unread ≡ j.unread) ⊎ ((f j).unread ≡ []) → response_at (f j).unread ≡ More
      more_by j i (inl e) = ap response_at e ∙ h.more j i
      more_by j i (inr none) = ap response_at none ∙ nothing_read

      answer_by : (j : Conn) → j.answer ≡ None → ((f j).answer ≡ j.answer) ⊎ ((f j).answer ≡ None) → (f j).answer ≡ None
      answer_by j none (inl e) = e ∙ none
      answer_by j none (inr e) = e

      unread_by : (j : Conn) → j.unread ≡ [] → ((f j).unread ≡ j.unread) ⊎ ((f j).unread ≡ []) → (f j).unread ≡ []
      unread_by j none (inl e) = e ∙ none
      unread_by j none (inr e) = e

      past_by : (a : Answer) (j : Conn) → IsIn j v.conns → ((f j).answer ≡ j.answer) ⊎ ((f j).answer ≡ None) → ((f j).unread ≡ j.unread) ⊎ ((f j).unread ≡ []) → (f j).answer ≡ Some a → (f j).unread ≡ []
      past_by a j i (inl e) (inl u) is = u ∙ h.past j a i (sym e ∙ is)
      past_by a j i (inl e) (inr none) is = none
      past_by a j i (inr e) u is = let both : None ≡ Some a = sym e ∙ is in absurd (cc both)

      shut_by : (j : Conn) → IsIn j v.conns → ((f j).is_closing ≡ j.is_closing) ⊎ (((f j).answer ≡ None) × ((f j).unread ≡ [])) → (f j).is_closing ≡ true → ((f j).answer ≡ None) × ((f j).unread ≡ [])
      shut_by j i (inl e) is = let w = h.shut j i (sym e ∙ is) in (answer_by j w.0 (still j).answer, unread_by j w.1 (still j).unread)
      shut_by j i (inr w) is = w

      begun_by : (a : Answer) (j : Conn) → IsIn j v.conns → ((f j).answer ≡ j.answer) ⊎ ((f j).answer ≡ None) → (f j).answer ≡ Some a → Began (total (f j).number) (end (f j).number) (asked (f j).number) (firsts (f j).number) a
      begun_by a j i (inl e) is = subst (λ n. Began (total n) (end n) (asked n) (firsts n) a) (sym (still j).number) (h.begun j a i (sym e ∙ is))
      begun_by a j i (inr none) is = let both : None ≡ Some a = sym none ∙ is in absurd (cc both)

      going_by : (a : Answer) (j : Conn) → IsIn j v.conns → ((f j).answer ≡ j.answer) ⊎ ((f j).answer ≡ None) → (f j).answer ≡ Some a → GoesOn a ⊎ (but ≡ Some ((f j).number, a))
      going_by a j i (inl e) is = subst (λ n. GoesOn a ⊎ (but ≡ Some (n, a))) (sym (still j).number) (h.going j a i (sym e ∙ is))
      going_by a j i (inr none) is = let both : None ≡ Some a = sym none ∙ is in absurd (cc both)

  pub exchanges_kept : (f : Exchange → Exchange) → ((e : Exchange) → Alike (f e) e) → (v : View) → Came total end asked firsts reads but v → Came total end asked firsts reads but (record v { exchanges = map f v.exchanges })
  exchanges_kept f alike v h = record {
    stand = h.stand;
    read = h.read;
    more = h.more;
    past = h.past;
    shut = h.shut;
    begun = h.begun;
    going = h.going;
    rise = h.rise;
    from = λ on k e i j l. let r = in_map f e v.exchanges j in subst (WasAsked (asked k.number)) (sym r.is) (of_was on k i r.was r.there (subst (λ (x : Exchange). IsIn x.number k.line) r.is l));
  }
    where
      of_was : reads ≡ true → (k : Conn) → IsIn k v.conns → (d : Exchange) → IsIn d v.exchanges → IsIn (f d).number k.line → WasAsked (asked k.number) (f d)
      of_was on k i d j l = alike_asked (f d) d (alike d) (h.from on k d i j (subst (λ n. IsIn n k.line) (alike d).number l))

  pub exchanges_fewer : (test : Exchange → Bool) → (v : View) → Came total end asked firsts reads but v → Came total end asked firsts reads but (record v { exchanges = filter test v.exchanges })
  exchanges_fewer test v h = record {
    stand = h.stand;
    read = h.read;
    more = h.more;
    past = h.past;
    shut = h.shut;
    begun = h.begun;
    going = h.going;
    rise = h.rise;
    from = λ on k e i j l. h.from on k e i (in_filter test e v.exchanges j).0 l;
  }

  alike_self : (e : Exchange) → Alike e e
  alike_self e = record { number = refl; key = refl; head = refl; aim = refl }

  alike_changed : (f : Exchange → Exchange) (e : Exchange) (t : Bool) → Alike (f e) e → Alike (elim t as (λ c. Exchange) [ true ↦ f e | false ↦ e ]) e
  alike_changed f e true so = so
  alike_changed f e false so = alike_self e

  still_lesser : (f : Conn → Conn) → ((k : Conn) → Lesser (f k) k) → (k : Conn) → Still (f k) k
  still_lesser f lesser k = let l = lesser k in record { number = l.number; answer = l.answer; unread = l.unread; closing = l.closing }

  pub came_walk : Walk (Came total end asked firsts reads but)
  unfolding on_exchange
  came_walk = record {
    clients = λ f kept v h. h;
    asks = λ f kept v h. exchanges_kept f (λ e. let s = kept e in record { number = s.number; key = s.key; head = s.head; aim = s.aim }) v h;
    left = λ test v h. exchanges_kept (changed_at test left_alone) (λ e. alike_changed left_alone e (test e) (record { number = refl; key = refl; head = refl; aim = refl })) v h;
    over = λ test v h. exchanges_fewer test v h;
    conns = λ f lesser v h. conns_kept f (still_lesser f lesser) (λ on k. (lesser k).within) v h;
    chunks = λ test v h. h;
    again = λ n s may h. exchanges_kept (changed_at (is_exchange n) unplaced) (λ e. alike_changed unplaced e (is_exchange n e) (record { number = refl; key = refl; head = refl; aim = refl })) (view s) h;
  }

-- ---- while nothing is read

module _ (total : ℕ → Bytes) (asked : ℕ → Exchange → Type 0) (firsts : ℕ → Option ℕ) where
  abbrev pub Rests : View → Type 0
  Rests v = Came total no_end asked firsts false none_apart v

  -- exchanges and lines may change
  pub rests_any : (v : View) (exchanges : List Exchange) → Rests v → Rests (record v { exchanges = exchanges })
  rests_any v exchanges h = record {
    stand = h.stand;
    read = h.read;
    more = h.more;
    past = h.past;
    shut = h.shut;
    begun = h.begun;
    going = h.going;
    rise = λ on. absurd (cc on);
    from = λ on. absurd (cc on);
  }

  pub rests_begin : Begins Rests
  unfolding begin_exchange add_exchange leave forsake
  rests_begin e s is_new h = rests_any (view s) _ h

  lined : (n k : ℕ) (j : Conn) (t : Bool) → Still (elim t as (λ c. Conn) [ true ↦ record j { line = j.line ++ n ∷ [] } | false ↦ j ]) j
  lined n k j true = record { number = refl; answer = inl refl; unread = inl refl; closing = inl refl }
  lined n k j false = record { number = refl; answer = inl refl; unread = inl refl; closing = inl refl }

  pub rests_place : Places Rests
  unfolding put_on on_conn on_exchange
  rests_place n k s h =
      conns_kept total no_end asked firsts false none_apart (changed_at (is_conn k) (λ j. record j { line = j.line ++ n ∷ [] })) (λ j. lined n k j (is_conn k j)) (λ on. absurd (cc on))
      (record (view s) { exchanges = change (is_exchange n) (λ e. record e { place = Some k; asked = 0 }) s.exchanges }) (rests_any (view s) _ h)

  -- a connection that is new
  pub rests_added : (v : View) (k : Conn) → k.answer ≡ None → k.unread ≡ [] → Rests v → Rests (record v { conns = v.conns ++ k ∷ [] })
  rests_added v k no_answer none h = record {
    stand = h.stand;
    read = λ j i. by (λ (x : Conn). EndsWith (total x.number) (x.unread ++ [])) j (in_push j v.conns k i) h.read (total k.number, sym (ap (λ (u : Bytes). total k.number ++ (u ++ [])) none ∙ append-nil (total k.number)));
    more = λ j i. by (λ (x : Conn). response_at x.unread ≡ More) j (in_push j v.conns k i) h.more (ap response_at none ∙ nothing_read);
    past = λ j a i. by (λ (x : Conn). x.answer ≡ Some a → x.unread ≡ []) j (in_push j v.conns k i) (λ g i2. h.past g a i2) (λ is. none);
    shut = λ j i. by (λ (x : Conn). x.is_closing ≡ true → (x.answer ≡ None) × (x.unread ≡ [])) j (in_push j v.conns k i) h.shut (λ is. (no_answer, none));
    begun = λ j a i. by (λ (x : Conn). x.answer ≡ Some a → Began (total x.number) [] (asked x.number) (firsts x.number) a) j (in_push j v.conns k i) (λ g i2. h.begun g a i2) (λ is. let both : None ≡ Some a = sym no_answer ∙ is in absurd (cc both));
    going = λ j a i. by (λ (x : Conn). x.answer ≡ Some a → GoesOn a ⊎ (none_apart ≡ Some (x.number, a))) j (in_push j v.conns k i) (λ g i2. h.going g a i2) (λ is. let both : None ≡ Some a = sym no_answer ∙ is in absurd (cc both));
    rise = λ on. absurd (cc on);
    from = λ on. absurd (cc on);
  }
    where
      by : (P : Conn → Type 0) (j : Conn) → IsIn j v.conns ⊎ (j ≡ k) → ((g : Conn) → IsIn g v.conns → P g) → P k → P j
      by P j (inl i) old new = old j i
      by P j (inr e) old new = subst P (sym e) new

  -- and one that is gone
  pub rests_fewer : (test : Conn → Bool) (v : View) → Rests v → Rests (record v { conns = filter test v.conns })
  rests_fewer test v h = record {
    stand = h.stand;
    read = λ k i. h.read k (in_filter test k v.conns i).0;
    more = λ k i. h.more k (in_filter test k v.conns i).0;
    past = λ k a i. h.past k a (in_filter test k v.conns i).0;
    shut = λ k i. h.shut k (in_filter test k v.conns i).0;
    begun = λ k a i. h.begun k a (in_filter test k v.conns i).0;
    going = λ k a i. h.going k a (in_filter test k v.conns i).0;
    rise = λ on. absurd (cc on);
    from = λ on. absurd (cc on);
  }

-- ---- more comes

module _ (total total2 more : ℕ → Bytes) (asked asked2 : ℕ → Exchange → Type 0) (firsts : ℕ → Option ℕ) (longer : (n : ℕ) → total2 n ≡ total n ++ more n) (kept_ask : (n : ℕ) (e : Exchange) → asked n e → asked2 n e) where
  stands_still : (p : Sent) → StandsIn total asked p → StandsIn total2 asked2 p
  stands_still p w =
      let zs = payload_more w.rule w.body (more w.number) in
      record {
        number = w.number;
        before = w.before;
        head = w.head;
        body = w.body ++ more w.number;
        stream = longer w.number ∙ ap (λ (xs : Bytes). xs ++ more w.number) w.stream ∙ append_assoc (w.before ++ w.head) w.body (more w.number);
        response = w.response;
        whole = ap response_at (sym (append_assoc w.head w.body (more w.number))) ∙ whole_more (w.head ++ w.body) (more w.number) w.response w.whole;
        cut = w.cut;
        final = w.final;
        ask = w.ask;
        asked = kept_ask w.number w.ask w.asked;
        rule = w.rule;
        ruled = w.ruled;
        version = w.version;
        earlier = w.earlier;
        later = w.later ++ zs.0;
        found = zs.1 ∙ ap (λ (xs : Bytes). xs ++ zs.0) w.found ∙ append_assoc (w.earlier ++ p.bytes) w.later zs.0;
        offset = w.offset;
        keyed = w.keyed;
        keyed_there = kept_ask w.number w.keyed w.keyed_there;
        one = w.one;
        key = w.key;
      }

  begun_still : (n : ℕ) (a : Answer) → Began (total n) [] (asked n) (firsts n) a → Began (total2 n) (more n) (asked2 n) (firsts n) a
  begun_still n a w =
      let join : (a.raw ++ []) ++ more n ≡ a.raw ++ more n = ap (λ (xs : Bytes). xs ++ more n) (append-nil a.raw) in
      record {
        before = w.before;
        head = w.head;
        stream = longer n ∙ ap (λ (xs : Bytes). xs ++ more n) w.stream ∙ append_assoc (w.before ++ w.head) (a.raw ++ []) (more n) ∙ ap (λ (xs : Bytes). w.before ++ w.head ++ xs) join;
        read = ap (λ (xs : Bytes). response_at (w.head ++ xs)) (sym join) ∙ ap response_at (sym (append_assoc w.head (a.raw ++ []) (more n))) ∙ whole_more (w.head ++ (a.raw ++ [])) (more n) a.head w.read;
        cut = w.cut;
        final = w.final;
        ask = w.ask;
        asks = kept_ask n w.ask w.asks;
        expected = w.expected;
        ruled = w.ruled;
        version = w.version;
      }

  pub came_more : (v : View) → Came total no_end asked firsts false none_apart v → Came total2 more asked2 firsts false none_apart v
  came_more v h = record {
    stand = λ p i. stands_still p (h.stand p i);
    read = λ k i.
        let w = h.read k i in
        (w.0, longer k.number ∙ ap (λ (xs : Bytes). xs ++ more k.number) w.1 ∙ append_assoc w.0 (k.unread ++ []) (more k.number) ∙ ap (λ (xs : Bytes). w.0 ++ (xs ++ more k.number)) (append-nil k.unread));
    more = h.more;
    past = h.past;
    shut = h.shut;
    begun = λ k a i is. begun_still k.number a (h.begun k a i is);
    going = h.going;
    rise = λ on. absurd (cc on);
    from = λ on. absurd (cc on);
  }

-- ---- whose response comes on a connection that is not answered

abbrev pub named : (ℕ → Option ℕ) → ℕ → Option ℕ → ℕ → Option ℕ
named firsts n to m = elim (m == n) [ true ↦ to | false ↦ firsts m ]

pub came_named : (total end : ℕ → Bytes) (asked : ℕ → Exchange → Type 0) (firsts : ℕ → Option ℕ) (reads : Bool) (but : Option (ℕ × Answer)) (n : ℕ) (to : Option ℕ) (v : View) → ((k : Conn) (a : Answer) → IsIn k v.conns → k.number ≡ n → k.answer ≡ Some a → ⊥)
    → Came total end asked firsts reads but v → Came total end asked (named firsts n to) reads but v
came_named total end asked firsts reads but n to v none h = record {
  stand = h.stand;
  read = h.read;
  more = h.more;
  past = h.past;
  shut = h.shut;
  begun = λ k a i is. by k a i is (k.number == n) refl;
  going = h.going;
  rise = h.rise;
  from = h.from;
}
  where
    by : (k : Conn) (a : Answer) → IsIn k v.conns → k.answer ≡ Some a → (t : Bool) → (k.number == n) ≡ t → Began (total k.number) (end k.number) (asked k.number) (named firsts n to k.number) a
    by k a i is true hit = absurd (none k a i (same_number k.number n hit) is)
    by k a i is false isnt = subst (λ o. Began (total k.number) (end k.number) (asked k.number) o a) (sym (ap (λ (t : Bool). elim t as (λ c. Option ℕ) [ true ↦ to | false ↦ firsts k.number ]) isnt)) (h.begun k a i is)
