-- What one of the exchanges asks, and what its response brings.
use Rattle.std.proofs.Common.{◌≡◌, ◌+◌, ◌-◌, refl, sym, subst, ap, ◌∙◌, ℕ, Bool, true, false, cond, find, List, Option, Some, None}
use Rattle.std.specs.Prelude.{is_some}
use Rattle.pp_cache_law.proofs.Finds.{find_passes}
use Rattle.pp_cache_law.proofs.Numbers.{some_is}
use Rattle.pp_flow.specs.Changes.{Exchanges, changed, with_errand}
use Rattle.pp_flow.specs.Entries.{asking, bound_to, is_number, moved, moved_by}
use Rattle.pp_flow.specs.declared.entry.Entry.{Entry}
use Rattle.pp_flow.specs.declared.errand.Body.{Body as ErrandBody}
use Rattle.pp_flow.specs.declared.errand.Body.TheVariants.{Pending as IsPending, Joining as IsJoining, Relaying as IsRelaying, Dropping as IsDropping}
use Rattle.pp_flow.specs.declared.errand.Errand.{Errand}
use Rattle.pp_law.specs.Asking.{asked_text}
use Rattle.pp_law.specs.Connections.{is_exchange, on_exchange}
use Rattle.pp_law.specs.OwnHeads.{moved_on, use_body}
use Rattle.pp_law.specs.Stages.{bound_in}
use Rattle.pp_law.specs.State.{State, Body, Pending, Joining, Relaying, Dropping, Bound, Exchange}
use Rattle.pp_seats_law.specs.Exchanges.{Binding, ShowsBody, ShowsExchange}
use Rattle.pp_flow_law.specs.Changes.{BodiesAreTheLaws, BytesAreTheLaws, ErrandsAreTheLaws, HeadsAreTheLaws, KeepsItsPlace, TextsAreTheLaws}
use Rattle.pp_flow_law.specs.Tables.{Leaving, ShowsFlow}
use Rattle.pp_flow_law.proofs.Entries.{any_is, changed_none, changed_twice, same_number}
use Rattle.pp_flow_law.proofs.Standing.{entry_placed, none_placed, none_waits}
use Rattle.pp_flow_law.proofs.Turned.{changed_at, changes}

-- ---- what it asks

errand_is : (number : ℕ → ℕ) (l : Leaving) (f : Exchanges) (s : State) → ShowsFlow number l f s → (n : ℕ) (r : Errand) → with_errand n r f ≡ changed_at n (asking r) f
errand_is number l f s shows n r = by (find (is_number n) f.waiting) refl
  where
    picked : (o : Option Entry) → find (is_number n) f.waiting ≡ o
        → with_errand n r f ≡ cond (is_some o) (record f { waiting = changed n (asking r) f.waiting }) (record f { placed = changed n (asking r) f.placed })
    picked o is = ap (λ (b : Bool). cond b (record f { waiting = changed n (asking r) f.waiting }) (record f { placed = changed n (asking r) f.placed })) (any_is (is_number n) f.waiting o is)

    by : (o : Option Entry) → find (is_number n) f.waiting ≡ o → with_errand n r f ≡ changed_at n (asking r) f
    by None is = picked None is ∙ ap (λ (es : List Entry). record f { waiting = es; placed = changed n (asking r) f.placed }) (sym (changed_none n (asking r) f.waiting is))
    by (Some x) is =
        picked (Some x) is ∙ ap (λ (es : List Entry). record f { waiting = changed n (asking r) f.waiting; placed = es }) (sym (changed_none n (asking r) f.placed (none_placed number l f s shows n x is)))

pub errands : ErrandsAreTheLaws
unfolding on_exchange
errands number l f s shows n x errand to here holds turns =
    subst (λ (g : Exchanges). ShowsFlow number l g (on_exchange n to s)) (sym (errand_is number l f s shows n errand))
    (changes number l f s shows n (asking errand) to (λ y. (refl, refl)) holds (λ y e there one.
    let same : x ≡ y = some_is x y (sym here ∙ there) in
    subst (λ (z : Entry). ShowsExchange number (asking errand z) (to e)) same (turns e (subst (λ (z : Entry). ShowsExchange number z e) (sym same) one))))

pub texts : TextsAreTheLaws
texts number l f s shows n m x here =
    errands number l f s shows n x (record x.errand { asked = x.errand.asked + m; requested = s.clock }) (asked_text m s.clock) here (λ e. (refl, refl)) (λ e one. record {
      number = one.number;
      asker = one.asker;
      aim = one.aim;
      place = one.place;
      text_key = one.text_key;
      parts = one.parts;
      named = one.named;
      is_ranged = one.is_ranged;
      is_moved = one.is_moved;
      is_asked_once = one.is_asked_once;
      asks_head = one.asks_head;
      is_safe = one.is_safe;
      binds = one.binds;
      identity = one.identity;
      guess = one.guess;
      text = one.text;
      asked = ap (λ (i : ℕ). i + m) one.asked;
      body_left = one.body_left;
      requested = refl;
      body = one.body;
    })

pub bodies : BodiesAreTheLaws
bodies number l f s shows n m x here =
    errands number l f s shows n x (record x.errand { body_left = x.errand.body_left - m }) (λ e. record e { body_left = e.body_left - m }) here (λ e. (refl, refl)) (λ e one. record {
      number = one.number;
      asker = one.asker;
      aim = one.aim;
      place = one.place;
      text_key = one.text_key;
      parts = one.parts;
      named = one.named;
      is_ranged = one.is_ranged;
      is_moved = one.is_moved;
      is_asked_once = one.is_asked_once;
      asks_head = one.asks_head;
      is_safe = one.is_safe;
      binds = one.binds;
      identity = one.identity;
      guess = one.guess;
      text = one.text;
      asked = one.asked;
      body_left = ap (λ (i : ℕ). i - m) one.body_left;
      requested = one.requested;
      body = one.body;
    })

-- ---- what its response brings

abbrev answered : Option Binding → Errand → Entry → Entry
answered to r x = asking r (bound_to to x)

head_is : (number : ℕ → ℕ) (l : Leaving) (f : Exchanges) (s : State) → ShowsFlow number l f s → (n : ℕ) (x : Entry) (to : Option Binding) (r : Errand) → find (is_number n) f.placed ≡ Some x
    → with_errand n r (record f { placed = changed n (bound_to to) f.placed }) ≡ changed_at n (answered to r) f
head_is number l f s shows n x to r here =
    ap (λ (b : Bool). cond b (record f { waiting = changed n (asking r) f.waiting; placed = changed n (bound_to to) f.placed }) (record f { placed = changed n (asking r) (changed n (bound_to to) f.placed) }))
    (any_is (is_number n) f.waiting None none)
    ∙ ap (λ (es : List Entry). record f { placed = es }) (changed_twice n (bound_to to) (asking r) (λ y. (refl, refl)) f.placed)
    ∙ ap (λ (es : List Entry). record f { waiting = es; placed = changed n (answered to r) f.placed }) (sym (changed_none n (answered to r) f.waiting none))
  where
    none : find (is_number n) f.waiting ≡ None
    none = none_waits number l f s shows n x here

pub heads : HeadsAreTheLaws
unfolding use_body on_exchange
heads number l f s shows n x e to body other here there shown =
    subst (λ (g : Exchanges). ShowsFlow number l g (use_body e other s)) (sym (head_is number l f s shows n x to (record x.errand { body = body }) here))
    (subst (λ (i : ℕ). ShowsFlow number l (changed_at n (answered to (record x.errand { body = body })) f) (on_exchange i (λ c. record c { body = other }) s)) (sym (same_number e.number n (find_passes (is_exchange n) s.exchanges e there)))
    (changes number l f s shows n (answered to (record x.errand { body = body })) (λ c. record c { body = other }) (λ y. (refl, refl)) (λ c. (refl, refl)) (λ y c known one.
    let same : x ≡ y = some_is x y (sym (entry_placed n f x (none_waits number l f s shows n x here) here) ∙ known) in
    subst (λ (z : Entry). ShowsExchange number (answered to (record x.errand { body = body }) z) (record c { body = other })) same (shows_head c (subst (λ (z : Entry). ShowsExchange number z c) (sym same) one)))))
  where
    shows_head : (c : Exchange) → ShowsExchange number x c → ShowsExchange number (answered to (record x.errand { body = body }) x) (record c { body = other })
    shows_head c one = record {
      number = one.number;
      asker = one.asker;
      aim = one.aim;
      place = one.place;
      text_key = one.text_key;
      parts = one.parts;
      named = one.named;
      is_ranged = one.is_ranged;
      is_moved = one.is_moved;
      is_asked_once = one.is_asked_once;
      asks_head = one.asks_head;
      is_safe = one.is_safe;
      binds = one.binds;
      identity = one.identity;
      guess = one.guess;
      text = one.text;
      asked = one.asked;
      body_left = one.body_left;
      requested = one.requested;
      body = shown;
    }

-- ---- bytes number of its span

abbrev moved_body : ℕ → Body → Body
moved_body m Pending = Pending
moved_body m (Joining b) = Joining (record b { next = b.next + m })
moved_body m Relaying = Relaying
moved_body m Dropping = Dropping

abbrev moved_in : ℕ → Exchange → Option Bound → Exchange
moved_in m e o = elim o as (λ x. Exchange) [ None ↦ e | Some b ↦ record e { body = Joining (record b { next = b.next + m }) } ]

moves : (m : ℕ) (e : Exchange) → moved_on m e ≡ record e { body = moved_body m e.body }
moves m e = by e.body refl
  where
    by : (b : Body) → e.body ≡ b → moved_in m e (bound_in b) ≡ record e { body = moved_body m b }
    by Pending is = ap (λ (b : Body). record e { body = b }) is
    by (Joining b) is = refl
    by Relaying is = ap (λ (b : Body). record e { body = b }) is
    by Dropping is = ap (λ (b : Body). record e { body = b }) is

moves_keep : (m : ℕ) → KeepsItsPlace (moved_on m)
moves_keep m e = (ap (λ (c : Exchange). c.number) (moves m e), ap (λ (c : Exchange). c.place) (moves m e))

moved_shows : (number : ℕ → ℕ) (m : ℕ) (body : ErrandBody) (headed : Bool) (bound : Option Binding) (other : Body) → ShowsBody number body headed bound other → ShowsBody number body headed (moved m bound) (moved_body m other)
moved_shows number m IsPending false None Pending shows = tt
moved_shows number m (IsJoining far) true (Some x) (Joining b) shows = record {
  joined = shows.joined;
  next = ap (λ (i : ℕ). i + m) shows.next;
  to = shows.to;
  is_all = shows.is_all;
  wanted = shows.wanted;
}
moved_shows number m IsRelaying true None Relaying shows = tt
moved_shows number m (IsDropping n) true None Dropping shows = tt
moved_shows number m body headed bound other shows = absurd shows

move_is : (number : ℕ → ℕ) (l : Leaving) (f : Exchanges) (s : State) → ShowsFlow number l f s → (n m : ℕ) (x : Entry) → find (is_number n) f.placed ≡ Some x → record f { placed = changed n (moved_by m) f.placed } ≡ changed_at n (moved_by m) f
move_is number l f s shows n m x here = ap (λ (es : List Entry). record f { waiting = es; placed = changed n (moved_by m) f.placed }) (sym (changed_none n (moved_by m) f.waiting (none_waits number l f s shows n x here)))

pub bytes : BytesAreTheLaws
unfolding on_exchange
bytes number l f s shows n m x here =
    subst (λ (g : Exchanges). ShowsFlow number l g (on_exchange n (moved_on m) s)) (sym (move_is number l f s shows n m x here))
    (changes number l f s shows n (moved_by m) (moved_on m) (λ y. (refl, refl)) (moves_keep m) (λ y e there one. subst (λ (c : Exchange). ShowsExchange number (moved_by m y) c) (sym (moves m e)) (shows_moved y e one)))
  where
    shows_moved : (y : Entry) (e : Exchange) → ShowsExchange number y e → ShowsExchange number (moved_by m y) (record e { body = moved_body m e.body })
    shows_moved y e one = record {
      number = one.number;
      asker = one.asker;
      aim = one.aim;
      place = one.place;
      text_key = one.text_key;
      parts = one.parts;
      named = one.named;
      is_ranged = one.is_ranged;
      is_moved = one.is_moved;
      is_asked_once = one.is_asked_once;
      asks_head = one.asks_head;
      is_safe = one.is_safe;
      binds = one.binds;
      identity = one.identity;
      guess = one.guess;
      text = one.text;
      asked = one.asked;
      body_left = one.body_left;
      requested = one.requested;
      body = moved_shows number m y.errand.body y.exchange.headed y.exchange.bound e.body one.body;
    }
