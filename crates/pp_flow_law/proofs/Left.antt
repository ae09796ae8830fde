-- At a decision a request leaves number the exchange that it asked.
use Rattle.std.proofs.Common.{◌≡◌, refl, sym, subst, ap, ◌∙◌, ℕ, Bool, true, false, not, ◌||◌, cond, find, List, [], ◌∷◌, Option, Some, None, option_map}
use Rattle.std.specs.Prelude.{is_some}
use Rattle.std.specs.List.{list_any}
use Rattle.pp_cache_law.proofs.Finds.{find_passes, none_changed, one_only, only_found}
use Rattle.pp_cache_law.proofs.Numbers.{true_false}
use Rattle.pp_cache_law.proofs.PairLemmas.{AreOnly}
use Rattle.pp_flow.specs.Changes.{Exchanges, changed, first_of, line_of}
use Rattle.pp_flow.specs.Entries.{begun_with, is_asked_by, is_number, nobodys}
use Rattle.pp_flow.specs.declared.entry.Entry.{Entry}
use Rattle.pp_law.specs.Closing.{forsake, is_of, is_over, leave, left_alone}
use Rattle.pp_law.specs.Connections.{end_exchange, exchange, is_exchange, on_exchange}
use Rattle.pp_law.specs.Deciding.{add_exchange, begin_exchange}
use Rattle.pp_law.specs.Lists.{change, is_some_with, without}
use Rattle.pp_law.specs.State.{Exchange}
use Rattle.pp_seats_law.specs.Exchanges.{ShowsExchange}
use Rattle.pp_flow_law.specs.Changes.{AsksBeginAsTheLaws, DecisionsLeaveAsTheLaws, begun_by, but, left_by}
use Rattle.pp_flow_law.specs.Tables.{ShowsFlow, has_none}
use Rattle.pp_flow_law.proofs.Begun.{begins}
use Rattle.pp_flow_law.proofs.Ended.{ends, over_at}
use Rattle.pp_flow_law.proofs.Entries.{none_some, same_as, without_none}
use Rattle.pp_flow_law.proofs.Framed.{frames}
use Rattle.pp_flow_law.proofs.Standing.{IsShown, entry_placed, entry_waiting, few_given, few_placed, few_waiting, is_shown, none_placed, none_waits, placed_has, waits_has}
use Rattle.pp_flow_law.proofs.Told.{asked_none, found_alone, its_asker}
use Rattle.pp_flow_law.proofs.Turned.{leaves}

no_over : (a b : Bool) → (a || b) ≡ false → (a ≡ false) × (b ≡ false)
no_over true b is = absurd cc
no_over false b is = (refl, is)

all_under : (es : List Exchange) → list_any is_over es ≡ false → without is_over es ≡ es
all_under [] none = refl
all_under (e ∷ es) none =
    let these : (is_over e ≡ false) × (list_any is_over es ≡ false) = no_over (is_over e) (list_any is_over es) none in
    ap (λ (t : Bool). cond (not t) (e ∷ without is_over es) (without is_over es)) these.0 ∙ ap (λ (xs : List Exchange). e ∷ xs) (all_under es these.1)

-- the one of that client and of that number
record IsThatOne (c n : ℕ) (d : Exchange) : Type 0 where
  asks : is_of c d ≡ true
  number : is_exchange n d ≡ true

-- the two tests hold of the same
same_test : (c n : ℕ) (d e : Exchange) → IsThatOne c n d → (is_of c e ≡ true → e ≡ d) → (is_exchange n e ≡ true → e ≡ d) → is_of c e ≡ is_exchange n e
same_test c n d e it one two = by (is_of c e) (is_exchange n e) refl refl
  where
    by : (a b : Bool) → is_of c e ≡ a → is_exchange n e ≡ b → a ≡ b
    by true true is so = refl
    by true false is so = absurd (true_false (sym (ap (λ (x : Exchange). is_exchange n x) (one is) ∙ it.number) ∙ so))
    by false true is so = absurd (true_false (sym (ap (λ (x : Exchange). is_of c x) (two so) ∙ it.asks) ∙ is))
    by false false is so = refl

out_is : (c n : ℕ) (d : Exchange) (es : List Exchange) → IsThatOne c n d → is_over (left_alone d) ≡ true → AreOnly (is_of c) d es → AreOnly (is_exchange n) d es → list_any is_over es ≡ false
    → without is_over (change (is_of c) left_alone es) ≡ without (is_exchange n) es
out_is c n d [] it over ones twos none = refl
out_is c n d (e ∷ es) it over ones twos none =
    by (is_of c e) refl (sym (same_test c n d e it ones.0 twos.0)) (out_is c n d es it over ones.1 twos.1 (no_over (is_over e) (list_any is_over es) none).1)
  where
    by : (a : Bool) → is_of c e ≡ a → is_exchange n e ≡ is_of c e → without is_over (change (is_of c) left_alone es) ≡ without (is_exchange n) es
        → without is_over ((elim a as (λ t. Exchange) [ true ↦ left_alone e | false ↦ e ]) ∷ change (is_of c) left_alone es) ≡ cond (not (is_exchange n e)) (e ∷ without (is_exchange n) es) (without (is_exchange n) es)
    by true is same rest =
        ap (λ (t : Bool). cond (not t) (left_alone e ∷ without is_over (change (is_of c) left_alone es)) (without is_over (change (is_of c) left_alone es))) (ap (λ (x : Exchange). is_over (left_alone x)) (ones.0 is) ∙ over)
        ∙ rest
        ∙ sym (ap (λ (t : Bool). cond (not t) (e ∷ without (is_exchange n) es) (without (is_exchange n) es)) (same ∙ is))
    by false is same rest =
        ap (λ (t : Bool). cond (not t) (e ∷ without is_over (change (is_of c) left_alone es)) (without is_over (change (is_of c) left_alone es))) (no_over (is_over e) (list_any is_over es) none).0
        ∙ ap (λ (xs : List Exchange). e ∷ xs) rest
        ∙ sym (ap (λ (t : Bool). cond (not t) (e ∷ without (is_exchange n) es) (without (is_exchange n) es)) (same ∙ is))

left_is : (c n : ℕ) (d : Exchange) (es : List Exchange) → IsThatOne c n d → is_over (left_alone d) ≡ false → AreOnly (is_of c) d es → AreOnly (is_exchange n) d es → list_any is_over es ≡ false
    → without is_over (change (is_of c) left_alone es) ≡ change (is_exchange n) left_alone es
left_is c n d [] it over ones twos none = refl
left_is c n d (e ∷ es) it over ones twos none =
    by (is_of c e) refl (sym (same_test c n d e it ones.0 twos.0)) (left_is c n d es it over ones.1 twos.1 (no_over (is_over e) (list_any is_over es) none).1)
  where
    by : (a : Bool) → is_of c e ≡ a → is_exchange n e ≡ is_of c e → without is_over (change (is_of c) left_alone es) ≡ change (is_exchange n) left_alone es
        → without is_over ((elim a as (λ t. Exchange) [ true ↦ left_alone e | false ↦ e ]) ∷ change (is_of c) left_alone es)
        ≡ (elim (is_exchange n e) as (λ t. Exchange) [ true ↦ left_alone e | false ↦ e ]) ∷ change (is_exchange n) left_alone es
    by true is same rest =
        ap (λ (t : Bool). cond (not t) (left_alone e ∷ without is_over (change (is_of c) left_alone es)) (without is_over (change (is_of c) left_alone es))) (ap (λ (x : Exchange). is_over (left_alone x)) (ones.0 is) ∙ over)
        ∙ ap (λ (xs : List Exchange). left_alone e ∷ xs) rest
        ∙ sym (ap (λ (t : Bool). (elim t as (λ b. Exchange) [ true ↦ left_alone e | false ↦ e ]) ∷ change (is_exchange n) left_alone es) (same ∙ is))
    by false is same rest =
        ap (λ (t : Bool). cond (not t) (e ∷ without is_over (change (is_of c) left_alone es)) (without is_over (change (is_of c) left_alone es))) (no_over (is_over e) (list_any is_over es) none).0
        ∙ ap (λ (xs : List Exchange). e ∷ xs) rest
        ∙ sym (ap (λ (t : Bool). (elim t as (λ b. Exchange) [ true ↦ left_alone e | false ↦ e ]) ∷ change (is_exchange n) left_alone es) (same ∙ is))

over_by : (d : Exchange) (b : Bool) → has_none d ≡ b → is_over (left_alone d) ≡ b
over_by d b is = is

-- what the program makes of them
abbrev nobodys_at : ℕ → Exchanges → Exchanges
nobodys_at n f = record f { waiting = changed n nobodys f.waiting; placed = changed n nobodys f.placed }

abbrev by_place : Exchanges → ℕ → Option ℕ → Exchanges
by_place f n place = elim place as (λ o. Exchanges) [ None ↦ over_at n f | Some k ↦ nobodys_at n f ]

none_is : (o : Option Exchange) → None ≡ option_map (λ (e : Exchange). e.number) o → o ≡ None
none_is None is = refl
none_is (Some e) is = absurd (none_some e.number is)

place_none : (o : Option ℕ) → not (is_some o) ≡ true → o ≡ None
place_none None is = refl
place_none (Some k) is = absurd cc

pub decisions : DecisionsLeaveAsTheLaws
unfolding leave forsake end_exchange on_exchange
decisions number l f s shows c few none = by (find (is_asked_by c) f.waiting) (find (is_asked_by c) f.placed) refl refl
  where
    its : (x : Entry) (it : IsShown number s x.exchange.number x) → is_asked_by c x ≡ true → IsThatOne c x.exchange.number it.known
    its x it asks = record { asks = sym (its_asker number c x it.known it.shows) ∙ asks; number = find_passes (is_exchange x.exchange.number) s.exchanges it.known it.there }

    ones : (n : ℕ) (d : Exchange) → exchange s n ≡ Some d → IsThatOne c n d → AreOnly (is_of c) d s.exchanges
    ones n d there it = only_found (is_of c) (is_exchange n) s.exchanges d there it.asks few

    twos : (n : ℕ) (d : Exchange) → exchange s n ≡ Some d → AreOnly (is_exchange n) d s.exchanges
    twos n d there = one_only (is_exchange n) s.exchanges d (few_given number l f s shows n) there

    neither : find (is_asked_by c) f.waiting ≡ None → find (is_asked_by c) f.placed ≡ None → ShowsFlow number l f (leave (is_of c) s)
    neither a b =
        frames number l f s shows l (leave (is_of c) s) (record {
          exchanges = ap (λ (es : List Exchange). without is_over es) (none_changed (is_of c) left_alone s.exchanges (none_is (find (is_of c) s.exchanges) (asked_none number l f s shows c a b))) ∙ all_under s.exchanges none;
          next = refl;
          lines = λ m. refl;
        })

    waiting : (x : Entry) → find (is_number x.exchange.number) f.waiting ≡ Some x → is_asked_by c x ≡ true → (p : Option ℕ) → x.exchange.place ≡ p → ShowsFlow number l (by_place f x.exchange.number p) (leave (is_of c) s)
    waiting x here asks p place =
        let n : ℕ = x.exchange.number in
        let it : IsShown number s n x = is_shown number l f s shows n x (entry_waiting n f x here) in
        let has : has_none it.known ≡ true = waits_has number l f s shows n x it.known here it.there in
        subst (λ (o : Option ℕ). ShowsFlow number l (by_place f x.exchange.number o) (leave (is_of c) s)) (sym (place_none x.exchange.place (ap (λ (o : Option ℕ). not (is_some o)) it.shows.place ∙ has)) ∙ place)
        (frames number (but n l) (over_at n f) (end_exchange n s) (ends number l f s shows n) l (leave (is_of c) s) (record {
          exchanges = out_is c n it.known s.exchanges (its x it asks) (over_by it.known true has) (ones n it.known it.there (its x it asks)) (twos n it.known it.there) none;
          next = refl;
          lines = λ m. sym (shows.lines m) ∙ ap (λ (es : List Entry). line_of m es) (sym (without_none n f.placed (none_placed number l f s shows n x here))) ∙ (ends number l f s shows n).lines m;
        }))

    placed : (x : Entry) → find (is_number x.exchange.number) f.placed ≡ Some x → is_asked_by c x ≡ true → (p : Option ℕ) → x.exchange.place ≡ p → ShowsFlow number l (by_place f x.exchange.number p) (leave (is_of c) s)
    placed x here asks None place =
        let it : IsShown number s x.exchange.number x = is_shown number l f s shows x.exchange.number x (entry_placed x.exchange.number f x (none_waits number l f s shows x.exchange.number x here) here) in
        let has : has_none it.known ≡ false = placed_has number l f s shows x.exchange.number x it.known here it.there in
        absurd (true_false (ap (λ (o : Option ℕ). not (is_some o)) (sym place ∙ it.shows.place) ∙ has))
    placed x here asks (Some k) place =
        let n : ℕ = x.exchange.number in
        let it : IsShown number s n x = is_shown number l f s shows n x (entry_placed n f x (none_waits number l f s shows n x here) here) in
        let has : has_none it.known ≡ false = placed_has number l f s shows n x it.known here it.there in
        frames number l (nobodys_at n f) (on_exchange n left_alone s) (leaves number l f s shows n) l (leave (is_of c) s) (record {
          exchanges = left_is c n it.known s.exchanges (its x it asks) (over_by it.known false has) (ones n it.known it.there (its x it asks)) (twos n it.known it.there) none;
          next = refl;
          lines = λ m. refl;
        })

    by : (u v : Option Entry) → find (is_asked_by c) f.waiting ≡ u → find (is_asked_by c) f.placed ≡ v
        → ShowsFlow number l (elim (first_of u v) as (λ o. Exchanges) [ None ↦ f | Some x ↦ by_place f x.exchange.number x.exchange.place ]) (leave (is_of c) s)
    by None None a b = neither a b
    by None (Some x) a b =
        placed x (found_alone (is_number x.exchange.number) (is_asked_by c) f.placed x b (same_as x.exchange.number x.exchange.number refl) (few_placed number l f s shows x.exchange.number)) (find_passes (is_asked_by c) f.placed x b)
        x.exchange.place refl
    by (Some x) v a b =
        waiting x (found_alone (is_number x.exchange.number) (is_asked_by c) f.waiting x a (same_as x.exchange.number x.exchange.number refl) (few_waiting number l f s shows x.exchange.number)) (find_passes (is_asked_by c) f.waiting x a)
        x.exchange.place refl

-- ---- and then another begins

left_begun : (c : ℕ) (f : Exchanges) → (left_by c f).begun ≡ f.begun
left_begun c f = by (first_of (find (is_asked_by c) f.waiting) (find (is_asked_by c) f.placed))
  where
    at : (n : ℕ) (p : Option ℕ) → (by_place f n p).begun ≡ f.begun
    at n None = refl
    at n (Some k) = refl

    by : (o : Option Entry) → (elim o as (λ u. Exchanges) [ None ↦ f | Some x ↦ by_place f x.exchange.number x.exchange.place ]).begun ≡ f.begun
    by None = refl
    by (Some x) = at x.exchange.number x.exchange.place

pub asks_begin : AsksBeginAsTheLaws
unfolding begin_exchange
asks_begin number l f s shows c key aim errand text e few none one =
    subst (λ (o : Option ℕ). ShowsFlow number l (begun_by c key aim errand text (left_by c f)) (add_exchange e (leave (λ x. is_some_with (λ n. is_of n x) o) s))) one.asker
    (begins number l (left_by c f) (leave (is_of c) s) (decisions number l f s shows c few none) c key aim errand text e (subst (λ (n : ℕ). ShowsExchange number (begun_with n c key aim errand text) e) (sym (left_begun c f)) one))
