-- `fill` asks for whoever follows: behind it each next byte that is wanted is there or comes.
use Rattle.std.proofs.Common.{◌≡◌, ◌⊎◌, refl, ℕ, nat_lt, nat_le, Bool, true, false, not, ◌==◌, ◌&&◌, ◌||◌, List, [], ◌∷◌, ◌++◌, map, filter, is_some, bytes_eq, Option, Some, None, inl, inr, sym, subst, ap, ◌∙◌}
use Rattle.std.specs.List.{list_any}
use Rattle.std.proofs.lemmas.Slice.Eq.{bytes_eq-Decides}
use Rattle.pp_plan.specs.Need.{is_near}
use Rattle.pp_target.specs.Key.{text_of}
use Rattle.pp_law.specs.Closing.{forsake, is_of, is_over, leave, left_alone}
use Rattle.pp_law.specs.Connections.{is_client, is_trying, on_client}
use Rattle.pp_law.specs.Deciding.{add_exchange, begin_exchange}
use Rattle.pp_law.specs.Followers.{filling_exchange}
use Rattle.pp_law.specs.Lists.{Bytes, change, is_some_with, is_this}
use Rattle.pp_law.specs.Stages.{bound_of, filled_of, is_headed}
use Rattle.pp_law.specs.State.{State, Aim, AskTooLong, Bound, Client, Exchange, Filling, Own, Through}
use Rattle.pp_law.specs.Table.{Next, asks_for, brings, is_brought, is_next_held, is_provided, is_to_come, next_of}
use Rattle.pp_valid.specs.declared.version.Version.{Version}
use Rattle.pp_laws.specs.Numbers.{AreRising}
use Rattle.pp_laws.specs.Runs.{IsIn}
use Rattle.pp_laws.proofs.Lists.{Changed, changed_at, in_change, in_filter, in_front, in_push, one_of, other, rise_change, same}
use Rattle.pp_laws.proofs.Sound.{client_number}
use Rattle.pp_laws.proofs.Tests.{number_same, same_number, second_holds}
use Rattle.pp_laws_bounds.proofs.Counts.{in_filter_of, in_map_of}
use Rattle.pp_laws_ends.proofs.Ahead.{or_first, or_second}
use Rattle.pp_laws_ends.proofs.Wanted.{any_of}
use Rattle.pp_laws_served.specs.Filling.{IsAsked, IsKeyed}
use Rattle.pp_laws_served.proofs.Holes.{AsksNext}

pub in_any : {A : Type 0} (p : A → Bool) (xs : List A) → list_any p xs ≡ true → (x : A) × IsIn x xs × (p x ≡ true)
in_any p [] is = absurd (cc is)
in_any {A} p (x ∷ xs) is = by (p x) refl is (in_any p xs)
  where
    by : (t : Bool) → p x ≡ t → (t || list_any p xs) ≡ true → (list_any p xs ≡ true → (y : A) × IsIn y xs × (p y ≡ true)) → (y : A) × IsIn y (x ∷ xs) × (p y ≡ true)
    by true hit at rest = (x, inl refl, hit)
    by false miss at rest = let w = rest at in (w.0, inr w.1, w.2)

-- ---- as far as these are gone through

pub record Facts (names done : List ℕ) (u : State) : Type 0 where
  pub named : (c : Client) → IsIn c u.clients → IsIn c.number names
  pub rise : AreRising (map client_number u.clients)
  pub keyed : (c : Client) (n : Next) → IsIn c u.clients → next_of u c ≡ Some n → IsKeyed c n
  pub unbound : (e : Exchange) → IsIn e u.exchanges → e.place ≡ None → bound_of e ≡ None
  pub asked : (e : Exchange) → IsIn e u.exchanges → e.place ≡ None → is_some (filled_of e) ≡ true → IsAsked u e
  pub filled : (c : Client) (n : Next) → IsIn c u.clients → IsIn c.number done → next_of u c ≡ Some n → is_trying c.course ≡ true → n.source.is_retired ≡ false → is_provided u n ≡ true

-- an exchange without a place that brings anything fills a hole
fills : (u : State) (e : Exchange) (n : Next) → (e.place ≡ None → bound_of e ≡ None) → e.place ≡ None → brings u n.source n.at e ≡ true → is_some (filled_of e) ≡ true
fills u e n unbound none is = by (bound_of e) (unbound none) is
  where
    of_aim : (a : Aim) → (not (is_headed e) && (elim a as (λ x. Bool) [ Through ↦ false | Own ↦ false | Filling v from to ↦ bytes_eq (text_of e.key) n.source.key && bytes_eq v.tag n.source.version.tag && nat_le from n.at && nat_lt n.at to && is_near from n.at ])) ≡ true
        → is_some (elim a as (λ x. Option Version) [ Through ↦ None | Own ↦ None | Filling v from to ↦ Some v ]) ≡ true
    of_aim Through at = let off : false ≡ true = second_holds (not (is_headed e)) false at in absurd (cc off)
    of_aim Own at = let off : false ≡ true = second_holds (not (is_headed e)) false at in absurd (cc off)
    of_aim (Filling v from to) at = refl

    by : (o : Option Bound) → o ≡ None → (elim o as (λ x. Bool) [ Some b ↦ is_to_come u n.source b n.at | None ↦ asks_for n.source n.at e ]) ≡ true → is_some (filled_of e) ≡ true
    by (Some b) off at = absurd (cc off)
    by None off at = of_aim e.aim at

-- ---- an ask is too long

pub gives_up : (names done : List ℕ) (x : Client) (u : State) → Facts names done u → Facts names (x.number ∷ done) (on_client x.number (λ c. record c { course = AskTooLong }) u)
unfolding on_client
gives_up names done x u h = record {
  named = λ c i. named_by c (in_change (is_client x.number) cut c u.clients i);
  rise = rise_change client_number (is_client x.number) cut (λ c. refl) u.clients h.rise;
  keyed = λ c n i is. keyed_by c n (in_change (is_client x.number) cut c u.clients i) is;
  unbound = h.unbound;
  asked = λ e i none fill_it. asked_by e (h.asked e i none fill_it);
  filled = λ c n i j is tries stands. filled_by c n (in_change (is_client x.number) cut c u.clients i) j is tries stands;
}
  where
    cut : Client → Client
    cut c = record c { course = AskTooLong }

    named_by : (c : Client) → Changed (is_client x.number) (λ d. record d { course = AskTooLong }) u.clients c → IsIn c.number names
    named_by c (same i isnt) = h.named c i
    named_by c (other d i hit eq) = subst (λ (y : Client). IsIn y.number names) (sym eq) (h.named d i)

    keyed_by : (c : Client) (n : Next) → Changed (is_client x.number) (λ d. record d { course = AskTooLong }) u.clients c → next_of u c ≡ Some n → IsKeyed c n
    keyed_by c n (same i isnt) is = h.keyed c n i is
    keyed_by c n (other d i hit eq) is =
        let k = h.keyed d n i (sym (ap (next_of u) eq) ∙ is) in
        record { request = k.request; front = ap (λ (y : Client). y.front) eq ∙ k.front; key = k.key; is = k.is; same_key = k.same_key; some = k.some; within = k.within }

    asked_by : (e : Exchange) → IsAsked u e → IsAsked (record u { clients = change (is_client x.number) (λ d. record d { course = AskTooLong }) u.clients }) e
    asked_by e w = by (is_client x.number w.client) refl
      where
        there : IsIn (changed_at (is_client x.number) (λ d. record d { course = AskTooLong }) w.client) (change (is_client x.number) (λ d. record d { course = AskTooLong }) u.clients)
        there = in_map_of (changed_at (is_client x.number) (λ d. record d { course = AskTooLong })) w.client u.clients w.there

        by : (b : Bool) → is_client x.number w.client ≡ b → IsAsked (record u { clients = change (is_client x.number) (λ d. record d { course = AskTooLong }) u.clients }) e
        by true is = record {
          client = record w.client { course = AskTooLong };
          there = subst (λ (b : Bool). IsIn (elim b as (λ y. Client) [ true ↦ record w.client { course = AskTooLong } | false ↦ w.client ]) (change (is_client x.number) (λ d. record d { course = AskTooLong }) u.clients)) is there;
          its = w.its;
          brings_it = w.brings_it;
        }
        by false is = record {
          client = w.client;
          there = subst (λ (b : Bool). IsIn (elim b as (λ y. Client) [ true ↦ record w.client { course = AskTooLong } | false ↦ w.client ]) (change (is_client x.number) (λ d. record d { course = AskTooLong }) u.clients)) is there;
          its = w.its;
          brings_it = w.brings_it;
        }

    filled_by : (c : Client) (n : Next) → Changed (is_client x.number) (λ d. record d { course = AskTooLong }) u.clients c → IsIn c.number (x.number ∷ done) → next_of u c ≡ Some n → is_trying c.course ≡ true → n.source.is_retired ≡ false → is_provided u n ≡ true
    filled_by c n (other d i hit eq) j is tries stands = let off : false ≡ true = sym (ap (λ (y : Client). is_trying y.course) eq) ∙ tries in absurd (cc off)
    filled_by c n (same i isnt) (inl it) is tries stands = let both : true ≡ false = sym (ap (λ m. m == x.number) it ∙ number_same x.number) ∙ isnt in absurd (cc both)
    filled_by c n (same i isnt) (inr j) is tries stands = h.filled c n i j is tries stands

-- ---- an ask begins

in_last : {A : Type 0} (x : A) (xs : List A) → IsIn x (xs ++ x ∷ [])
in_last x [] = inl refl
in_last x (y ∷ xs) = inr (in_last x xs)

same_text : (xs ys : Bytes) → xs ≡ ys → bytes_eq xs ys ≡ true
same_text xs ys is = (bytes_eq-Decides xs ys).1 is

five_hold : (a b c d e : Bool) → a ≡ true → b ≡ true → c ≡ true → d ≡ true → e ≡ true → (a && b && c && d && e) ≡ true
five_hold true true true true true v w x y z = refl
five_hold false b c d e v w x y z = absurd (cc v)
five_hold true false c d e v w x y z = absurd (cc w)
five_hold true true false d e v w x y z = absurd (cc x)
five_hold true true true false e v w x y z = absurd (cc y)
five_hold true true true true false v w x y z = absurd (cc z)

module _ (names done : List ℕ) (x : Client) (u : State) (there : IsIn x u.clients) (h : Facts names done u) (n : Next) (is_next : next_of u x ≡ Some n) (k : IsKeyed x n) (a : AsksNext u n) where
  e : Exchange
  e = filling_exchange u x k.request.head k.key n a.span

  its : Exchange → Bool
  its d = is_of x.number d

  comes : asks_for n.source n.at (filling_exchange u x k.request.head k.key n a.span) ≡ true
  comes = five_hold (bytes_eq (text_of k.key) n.source.key) (bytes_eq n.source.version.tag n.source.version.tag) (nat_le a.span.0 n.at) (nat_lt n.at a.span.1) (is_near a.span.0 n.at)
      (same_text (text_of k.key) n.source.key (sym k.same_key)) (same_text n.source.version.tag n.source.version.tag refl) a.from a.to a.near

  -- what brings something else stays
  not_its : (d : Exchange) (m : Next) → IsIn d u.exchanges → d.place ≡ None → brings u m.source m.at d ≡ true → (is_this x.number d.asker ≡ false) × (is_some d.asker ≡ true)
  not_its d m i none on = (off (is_this x.number d.asker) refl, some d.asker w.its)
    where
      w : IsAsked u d
      w = h.asked d i none (fills u d m (h.unbound d i) none on)

      some : (o : Option ℕ) → is_this w.client.number o ≡ true → is_some o ≡ true
      some None at = absurd (cc at)
      some (Some l) at = refl

      number : (o : Option ℕ) → is_this x.number o ≡ true → is_this w.client.number o ≡ true → w.client.number ≡ x.number
      number None at it = absurd (cc at)
      number (Some l) at it = sym (same_number l w.client.number it) ∙ same_number l x.number at

      off : (b : Bool) → is_this x.number d.asker ≡ b → is_this x.number d.asker ≡ false
      off false isnt = isnt
      off true is =
          let eq : w.client ≡ x = one_of client_number u.clients w.client x h.rise w.there there (number d.asker is w.its) in
          let both : true ≡ false = sym (any_of (brings u n.source n.at) d u.exchanges i (sym (ap (λ o. is_some_with (λ (l : Next). brings u l.source l.at d) o) (ap (next_of u) eq ∙ is_next)) ∙ w.brings_it)) ∙ a.alone in
          absurd (cc both)

  still_comes : (m : Next) → is_brought u m.source m.at ≡ true → is_brought (begin_exchange (filling_exchange u x k.request.head k.key n a.span) u) m.source m.at ≡ true
  unfolding begin_exchange add_exchange leave forsake
  still_comes m on =
      let w = in_any (brings u m.source m.at) u.exchanges on in
      by w.0 w.1 w.2 (is_this x.number w.0.asker) refl w.0.place refl
    where
      changed : List Exchange
      changed = change (λ d. is_this x.number d.asker) left_alone u.exchanges

      put : (d : Exchange) → IsIn d (change (λ d. is_this x.number d.asker) left_alone u.exchanges) → not (is_over d) ≡ true → brings u m.source m.at d ≡ true
          → list_any (brings u m.source m.at) (filter (λ y. not (is_over y)) (change (λ y. is_this x.number y.asker) left_alone u.exchanges) ++ filling_exchange u x k.request.head k.key n a.span ∷ []) ≡ true
      put d i stays it =
          any_of (brings u m.source m.at) d _
          (in_front d (filter (λ y. not (is_over y)) (change (λ y. is_this x.number y.asker) left_alone u.exchanges)) _ (in_filter_of (λ y. not (is_over y)) d (change (λ y. is_this x.number y.asker) left_alone u.exchanges) i stays)) it

      at : (d : Exchange) → IsIn d u.exchanges → (b : Bool) → is_this x.number d.asker ≡ b → IsIn (elim b as (λ y. Exchange) [ true ↦ left_alone d | false ↦ d ]) (change (λ y. is_this x.number y.asker) left_alone u.exchanges)
      at d i b is = subst (λ (c : Bool). IsIn (elim c as (λ y. Exchange) [ true ↦ left_alone d | false ↦ d ]) (change (λ y. is_this x.number y.asker) left_alone u.exchanges)) is (in_map_of (changed_at (λ (y : Exchange). is_this x.number y.asker) left_alone) d u.exchanges i)

      by : (d : Exchange) → IsIn d u.exchanges → brings u m.source m.at d ≡ true → (b : Bool) → is_this x.number d.asker ≡ b → (o : Option ℕ) → d.place ≡ o
          → list_any (brings u m.source m.at) (filter (λ y. not (is_over y)) (change (λ y. is_this x.number y.asker) left_alone u.exchanges) ++ filling_exchange u x k.request.head k.key n a.span ∷ []) ≡ true
      by d i it true is (Some l) placed = put (left_alone d) (at d i true is) (ap (λ (o : Option ℕ). not (not (false || is_some o))) placed) it
      by d i it true is None none = let both : true ≡ false = sym is ∙ (not_its d m i none it).0 in absurd (cc both)
      by d i it false isnt (Some l) placed = put d (at d i false isnt) (ap (λ (o : Option ℕ). not (not (is_some d.asker || is_some o))) placed ∙ kept (is_some d.asker)) it
        where
          kept : (c : Bool) → not (not (c || true)) ≡ true
          kept true = refl
          kept false = refl
      by d i it false isnt None none = put d (at d i false isnt) (ap (λ (c : Bool). not (not (c || is_some d.place))) (not_its d m i none it).1) it

  pub begins : Facts names (x.number ∷ done) (begin_exchange (filling_exchange u x k.request.head k.key n a.span) u)
  unfolding begin_exchange add_exchange leave forsake
  begins = record {
    named = h.named;
    rise = h.rise;
    keyed = h.keyed;
    unbound = λ d i. unbound_by d (in_push d (filter (λ y. not (is_over y)) (change (λ y. is_this x.number y.asker) left_alone u.exchanges)) (filling_exchange u x k.request.head k.key n a.span) i);
    asked = λ d i. asked_by d (in_push d (filter (λ y. not (is_over y)) (change (λ y. is_this x.number y.asker) left_alone u.exchanges)) (filling_exchange u x k.request.head k.key n a.span) i);
    filled = λ c m i j is tries stands. filled_by c m i j is tries stands;
  }
    where
      unbound_by : (d : Exchange) → IsIn d (filter (λ y. not (is_over y)) (change (λ y. is_this x.number y.asker) left_alone u.exchanges)) ⊎ (d ≡ filling_exchange u x k.request.head k.key n a.span) → d.place ≡ None → bound_of d ≡ None
      unbound_by d (inr eq) none = ap bound_of eq
      unbound_by d (inl i) none = of (in_change (λ (y : Exchange). is_this x.number y.asker) left_alone d u.exchanges (in_filter (λ y. not (is_over y)) d (change (λ y. is_this x.number y.asker) left_alone u.exchanges) i).0)
        where
          of : Changed (λ (y : Exchange). is_this x.number y.asker) left_alone u.exchanges d → bound_of d ≡ None
          of (same j isnt) = h.unbound d j none
          of (other b j hit eq) = ap bound_of eq ∙ h.unbound b j (sym (ap (λ (y : Exchange). y.place) eq) ∙ none)

      asked_by : (d : Exchange) → IsIn d (filter (λ y. not (is_over y)) (change (λ y. is_this x.number y.asker) left_alone u.exchanges)) ⊎ (d ≡ filling_exchange u x k.request.head k.key n a.span) → d.place ≡ None → is_some (filled_of d) ≡ true
          → IsAsked (begin_exchange (filling_exchange u x k.request.head k.key n a.span) u) d
      asked_by d (inr eq) none fill_it = subst (λ (y : Exchange). IsAsked (begin_exchange (filling_exchange u x k.request.head k.key n a.span) u) y) (sym eq) (record {
        client = x;
        there = there;
        its = number_same x.number;
        brings_it = ap (λ o. is_some_with (λ (m : Next). brings u m.source m.at (filling_exchange u x k.request.head k.key n a.span)) o) is_next ∙ comes;
      })
      asked_by d (inl i) none fill_it = of (in_change (λ (y : Exchange). is_this x.number y.asker) left_alone d u.exchanges w.0)
        where
          w : IsIn d (change (λ y. is_this x.number y.asker) left_alone u.exchanges) × (not (is_over d) ≡ true)
          w = in_filter (λ y. not (is_over y)) d (change (λ y. is_this x.number y.asker) left_alone u.exchanges) i

          of : Changed (λ (y : Exchange). is_this x.number y.asker) left_alone u.exchanges d → IsAsked (begin_exchange (filling_exchange u x k.request.head k.key n a.span) u) d
          of (same j isnt) = let v = h.asked d j none fill_it in record { client = v.client; there = v.there; its = v.its; brings_it = v.brings_it }
          of (other b j hit eq) =
              let gone : not (is_over d) ≡ false = ap (λ (y : Exchange). not (is_over y)) eq ∙ ap (λ (o : Option ℕ). not (not (false || is_some o))) (sym (ap (λ (y : Exchange). y.place) eq) ∙ none) in
              let both : true ≡ false = sym w.1 ∙ gone in absurd (cc both)

      filled_by : (c : Client) (m : Next) → IsIn c u.clients → IsIn c.number (x.number ∷ done) → next_of u c ≡ Some m → is_trying c.course ≡ true → m.source.is_retired ≡ false → is_provided (begin_exchange (filling_exchange u x k.request.head k.key n a.span) u) m ≡ true
      filled_by c m i (inl it) is tries stands =
          let eq : c ≡ x = one_of client_number u.clients c x h.rise i there it in
          let one : Some m ≡ Some n = sym is ∙ ap (next_of u) eq ∙ is_next in
          let it_is : m ≡ n = cc one in
          or_second (is_next_held u m) _
          (any_of (brings u m.source m.at) (filling_exchange u x k.request.head k.key n a.span) _ (in_last (filling_exchange u x k.request.head k.key n a.span) (filter (λ y. not (is_over y)) (change (λ y. is_this x.number y.asker) left_alone u.exchanges)))
          (ap (λ (l : Next). brings u l.source l.at (filling_exchange u x k.request.head k.key n a.span)) it_is ∙ comes))
      filled_by c m i (inr j) is tries stands = by (is_next_held u m) refl (h.filled c m i j is tries stands)
        where
          by : (b : Bool) → is_next_held u m ≡ b → (b || is_brought u m.source m.at) ≡ true → is_provided (begin_exchange (filling_exchange u x k.request.head k.key n a.span) u) m ≡ true
          by true held at = or_first _ _ held
          by false off at = or_second (is_next_held u m) _ (still_comes m at)
