-- The order in which the law changes clients and exchanges of one response does not matter.
use Rattle.std.proofs.Common.{◌≡◌, refl, sym, ap, ap₂, ◌∙◌, ℕ, Bool, true, false, not, ◌&&◌, ◌||◌, cond, filter, List, [], ◌∷◌}
use Rattle.std.specs.List.{list_any}
use Rattle.pp_law.specs.Closing.{left_alone}
use Rattle.pp_law.specs.Connections.{attempts_of, charge, give_up_row, is_exchange, is_for, is_out, is_unfilled, lose_attempt, lost_one, on_client_of, on_exchange, without_row, without_shared_row, anew}
use Rattle.pp_law.specs.Lists.{Bytes, change, is_some_with, is_this}
use Rattle.pp_law.specs.OwnHeads.{is_asked_by, tell, use_body}
use Rattle.pp_law.specs.Stages.{filled_of, is_begun}
use Rattle.pp_law.specs.State.{State, Body, Brought, Chunk, Client, Course, Exchange, Instance}
use Rattle.pp_law.specs.Table.{clear, displaced_by, follows, is_chunk_of_any, is_entry_of, is_left_over, is_row_of, is_same_version, row, swept}
use Rattle.pp_target.specs.Key.{text_of}

abbrev pub told_client_if : Brought → Client → Bool → Client
told_client_if d c t = elim t as (λ u. Client) [ true ↦ c | false ↦ record c { brought = d } ]

abbrev pub told_client : Brought → Client → Client
told_client d c = told_client_if d c (is_begun c)

-- ---- the law tells it as its client

one_told : (d : Brought) (c : Client) (a b : Bool) → (elim (a && not b) as (λ t. Client) [ true ↦ record c { brought = d } | false ↦ c ]) ≡ (elim a as (λ t. Client) [ true ↦ told_client_if d c b | false ↦ c ])
one_told d c true true = refl
one_told d c true false = refl
one_told d c false b = refl

all_told : (e : Exchange) (d : Brought) (cs : List Client) → change (is_asked_by e) (λ c. record c { brought = d }) cs ≡ change (is_for e) (told_client d) cs
all_told e d [] = refl
all_told e d (c ∷ cs) = ap₂ (λ (x : Client) (xs : List Client). x ∷ xs) (one_told d c (is_for e c) (is_begun c)) (all_told e d cs)

pub tell_is : (e : Exchange) (d : Brought) (s : State) → tell e d s ≡ on_client_of e (told_client d) s
unfolding tell on_client_of
tell_is e d s = ap (λ (cs : List Client). record s { clients = cs }) (all_told e d s.clients)

-- ---- two changes of the same list

-- neither is seen by the other
pub record AreFree {A : Type 0} (p q : A → Bool) (f g : A → A) : Type 0 where
  pub first : (x : A) → p (g x) ≡ p x
  pub second : (x : A) → q (f x) ≡ q x
  pub both : (x : A) → f (g x) ≡ g (f x)

abbrev if_so : {A : Type 0} → Bool → (A → A) → A → A
if_so {A = A} b f x = elim b as (λ t. A) [ true ↦ f x | false ↦ x ]

one_each : {A : Type 0} (p q : A → Bool) (f g : A → A) → AreFree p q f g → (x : A) → if_so (p (if_so (q x) g x)) f (if_so (q x) g x) ≡ if_so (q (if_so (p x) f x)) g (if_so (p x) f x)
one_each {A = A} p q f g free x = by (p x) (q x) refl refl
  where
    by : (b c : Bool) → p x ≡ b → q x ≡ c → if_so (p (if_so c g x)) f (if_so c g x) ≡ if_so (q (if_so b f x)) g (if_so b f x)
    by true true is so =
        ap (λ (t : Bool). if_so t f (g x)) (free.first x ∙ is) ∙ free.both x ∙ sym (ap (λ (t : Bool). if_so t g (f x)) (free.second x ∙ so))
    by true false is so = ap (λ (t : Bool). if_so t f x) is ∙ sym (ap (λ (t : Bool). if_so t g (f x)) (free.second x ∙ so))
    by false true is so = ap (λ (t : Bool). if_so t f (g x)) (free.first x ∙ is) ∙ sym (ap (λ (t : Bool). if_so t g x) so)
    by false false is so = ap (λ (t : Bool). if_so t f x) is ∙ sym (ap (λ (t : Bool). if_so t g x) so)

pub swaps : {A : Type 0} (p q : A → Bool) (f g : A → A) → AreFree p q f g → (xs : List A) → change p f (change q g xs) ≡ change q g (change p f xs)
swaps p q f g free [] = refl
swaps {A = A} p q f g free (x ∷ xs) = ap₂ (λ (y : A) (ys : List A). y ∷ ys) (one_each p q f g free x) (swaps p q f g free xs)

pub any_as_before : {A : Type 0} (p q : A → Bool) (g : A → A) → ((x : A) → p (g x) ≡ p x) → (xs : List A) → list_any p (change q g xs) ≡ list_any p xs
any_as_before p q g same [] = refl
any_as_before {A = A} p q g same (x ∷ xs) = ap₂ (λ (a b : Bool). a || b) (by (q x)) (any_as_before p q g same xs)
  where
    by : (b : Bool) → p (if_so b g x) ≡ p x
    by true = same x
    by false = refl

-- ---- a row is cleared, whatever clients are told, and where bodies go

abbrev pub with_both : List Client → List Exchange → State → State
with_both cs es s = record s { clients = cs; exchanges = es }

kept_alike : {A : Type 0} (p q : A → Bool) → ((x : A) → p x ≡ q x) → (xs : List A) → filter p xs ≡ filter q xs
kept_alike p q same [] = refl
kept_alike {A = A} p q same (x ∷ xs) = ap₂ (λ (b : Bool) (ys : List A). cond b (x ∷ ys) ys) (same x) (kept_alike p q same xs)

abbrev FollowAlike : List Client → List Client → Type 0
FollowAlike cs ds = (id : ℕ) → list_any (follows id) ds ≡ list_any (follows id) cs

pub swept_alike : (s : State) (ds : List Client) (es : List Exchange) → FollowAlike s.clients ds → swept (with_both ds es s) ≡ with_both ds es (swept s)
unfolding swept
swept_alike s ds es same =
    ap₂ (λ (xs : List Instance) (cs : List Chunk). record (with_both ds es s) { instances = xs; chunks = cs })
    (kept_alike (λ x. not (is_left_over (with_both ds es s) x)) (λ x. not (is_left_over s x)) (λ x. ap not (one x)) s.instances)
    (kept_alike (λ c. not (is_chunk_of_any (filter (is_left_over (with_both ds es s)) s.instances) c)) (λ c. not (is_chunk_of_any (filter (is_left_over s) s.instances) c))
    (λ c. ap (λ (xs : List Instance). not (is_chunk_of_any xs c)) (kept_alike (is_left_over (with_both ds es s)) (is_left_over s) one s.instances)) s.chunks)
  where
    one : (x : Instance) → is_left_over (with_both ds es s) x ≡ is_left_over s x
    one x = ap (λ (b : Bool). x.is_retired && not b) (same x.id)

pub cleared_alike : (key : Bytes) (s : State) (ds : List Client) (es : List Exchange) → FollowAlike s.clients ds → clear key (with_both ds es s) ≡ with_both ds es (clear key s)
unfolding clear
cleared_alike key s ds es same = swept_alike (record s {
  instances = change (is_row_of key) (λ x. record x { is_retired = true }) s.instances;
  entries = change (is_entry_of key) (λ e. record e { is_stale = true }) s.entries;
  displaced = displaced_by key s;
}) ds es same

-- ---- a response is dropped, and costs its request: in whatever order

abbrev pub tells_in : Exchange → Brought → List Client → List Client
tells_in e d cs = change (is_for e) (told_client d) cs

abbrev pub uses_in : Exchange → Body → List Exchange → List Exchange
uses_in e body es = change (is_exchange e.number) (λ x. record x { body = body }) es

abbrev pub told_both : Exchange → Brought → Body → State → State
told_both e d body s = with_both (tells_in e d s.clients) (uses_in e body s.exchanges) s

pub told_both_is : (e : Exchange) (d : Brought) (body : Body) (s : State) → tell e d (use_body e body s) ≡ told_both e d body s
unfolding use_body on_exchange on_client_of
told_both_is e d body s = tell_is e d (use_body e body s)

told_number : (d : Brought) (c : Client) → (told_client d c).number ≡ c.number
told_number d c = by (is_begun c)
  where
    by : (t : Bool) → (told_client_if d c t).number ≡ c.number
    by true = refl
    by false = refl

for_told : (e : Exchange) (d : Brought) (c : Client) → is_for e (told_client d c) ≡ is_for e c
for_told e d c = ap (λ (n : ℕ). is_this n e.asker) (told_number d c)

pub follow_told : (d : Brought) (id : ℕ) (c : Client) → follows id (told_client d c) ≡ follows id c
follow_told d id c = by (is_begun c)
  where
    by : (t : Bool) → follows id (told_client_if d c t) ≡ follows id c
    by true = refl
    by false = refl

-- another course
course_told : (d : Brought) (cost : Course → Course) (c : Client) → record (told_client d c) { course = cost (told_client d c).course } ≡ told_client d (record c { course = cost c.course })
course_told d cost c = by (is_begun c)
  where
    by : (t : Bool) → record (told_client_if d c t) { course = cost (told_client_if d c t).course } ≡ told_client_if d (record c { course = cost c.course }) t
    by true = refl
    by false = refl

paid_free : (e : Exchange) (d : Brought) (cost : Course → Course) → AreFree (is_for e) (is_for e) (λ c. record c { course = cost c.course }) (told_client d)
paid_free e d cost = record { first = for_told e d; second = λ c. refl; both = course_told d cost }

abbrev without_if : Client → Bool → Client
without_if c b = elim b as (λ u. Client) [ true ↦ c | false ↦ record c { course = anew c.course; has_given_up = true } ]

without_row_number : (c : Client) → (without_row c).number ≡ c.number
without_row_number c = by (is_begun c || c.has_given_up)
  where
    by : (b : Bool) → (without_if c b).number ≡ c.number
    by true = refl
    by false = refl

row_told : (d : Brought) (c : Client) → without_row (told_client d c) ≡ told_client d (without_row c)
row_told d c = by (is_begun c) c.has_given_up refl refl
  where
    by : (t u : Bool) → is_begun c ≡ t → c.has_given_up ≡ u → without_row (told_client d c) ≡ told_client d (without_row c)
    by t u is so =
        ap (λ (b : Bool). without_row (told_client_if d c b)) is ∙ at t u is so
        ∙ sym (ap₂ (λ (a b : Bool). told_client d (without_if c (a || b))) is so)
      where
        at : (t u : Bool) → is_begun c ≡ t → c.has_given_up ≡ u → without_row (told_client_if d c t) ≡ told_client d (without_if c (t || u))
        at true u is so = ap₂ (λ (a b : Bool). without_if c (a || b)) is so ∙ sym (ap (λ (b : Bool). told_client_if d c b) is)
        at false true is so = ap₂ (λ (a b : Bool). without_if (record c { brought = d }) (a || b)) is so ∙ sym (ap (λ (b : Bool). told_client_if d c b) is)
        at false false is so =
            ap₂ (λ (a b : Bool). without_if (record c { brought = d }) (a || b)) is so ∙ sym (ap (λ (b : Bool). told_client_if d (record c { course = anew c.course; has_given_up = true }) b) is)

rowless_free : (e : Exchange) (d : Brought) → AreFree (is_for e) (is_for e) without_row (told_client d)
rowless_free e d = record { first = for_told e d; second = λ c. ap (λ (n : ℕ). is_this n e.asker) (without_row_number c); both = row_told d }

left_free : (e : Exchange) (body : Body) → AreFree (is_exchange e.number) (is_exchange e.number) left_alone (λ x. record x { body = body })
left_free e body = record { first = λ x. refl; second = λ x. refl; both = λ x. refl }

-- ---- an attempt is lost

unfilled_told : (e : Exchange) (d : Brought) (body : Body) (s : State) → is_unfilled (told_both e d body s) e ≡ is_unfilled s e
unfilled_told e d body s =
    ap (λ (b : Bool). is_some_with (λ v. is_some_with (λ x. is_same_version v x.version) (row s (text_of e.key))) (filled_of e) && b)
    (any_as_before (λ c. is_for e c && is_out c.course) (is_for e) (told_client d) one s.clients)
  where
    out : (c : Client) (t : Bool) → is_out (told_client_if d c t).course ≡ is_out c.course
    out c true = refl
    out c false = refl

    one : (c : Client) → (is_for e (told_client d c) && is_out (told_client d c).course) ≡ (is_for e c && is_out c.course)
    one c = ap₂ (λ (a b : Bool). a && b) (for_told e d c) (out c (is_begun c))

abbrev given_up_if : Exchange → State → Bool → State
given_up_if e s b = elim b as (λ t. State) [ false ↦ s | true ↦ on_exchange e.number left_alone (on_client_of e without_row (clear (text_of e.key) s)) ]

dropped_row_told : (e : Exchange) (d : Brought) (body : Body) (s : State) → on_exchange e.number left_alone (on_client_of e without_row (clear (text_of e.key) (told_both e d body s))) ≡ told_both e d body (on_exchange e.number left_alone (on_client_of e without_row (clear (text_of e.key) s)))
unfolding on_exchange on_client_of clear swept
dropped_row_told e d body s =
    ap (λ (t : State). on_exchange e.number left_alone (on_client_of e without_row t)) (cleared_alike (text_of e.key) s (tells_in e d s.clients) (uses_in e body s.exchanges) (λ id. any_as_before (follows id) (is_for e) (told_client d) (follow_told d id) s.clients))
    ∙ ap₂ (λ (cs : List Client) (es : List Exchange). with_both cs es (clear (text_of e.key) s))
    (swaps (is_for e) (is_for e) without_row (told_client d) (rowless_free e d) s.clients)
    (swaps (is_exchange e.number) (is_exchange e.number) left_alone (λ x. record x { body = body }) (left_free e body) s.exchanges)

given_up_told : (e : Exchange) (d : Brought) (body : Body) (s : State) → give_up_row e (told_both e d body s) ≡ told_both e d body (give_up_row e s)
unfolding give_up_row
given_up_told e d body s = ap (λ (b : Bool). given_up_if e (told_both e d body s) b) (unfilled_told e d body s) ∙ by (is_unfilled s e)
  where
    by : (b : Bool) → given_up_if e (told_both e d body s) b ≡ told_both e d body (given_up_if e s b)
    by true = dropped_row_told e d body s
    by false = refl

paid_told : (e : Exchange) (d : Brought) (body : Body) (cost : Course → Course) (s : State) → on_client_of e (λ c. record c { course = cost c.course }) (told_both e d body s) ≡ told_both e d body (on_client_of e (λ c. record c { course = cost c.course }) s)
unfolding on_client_of
paid_told e d body cost s =
    ap (λ (cs : List Client). with_both cs (uses_in e body s.exchanges) s) (swaps (is_for e) (is_for e) (λ c. record c { course = cost c.course }) (told_client d) (paid_free e d cost) s.clients)

charged_told : (e : Exchange) (d : Brought) (body : Body) (cost : Course → Course) (s : State) → charge cost e (told_both e d body s) ≡ told_both e d body (charge cost e s)
unfolding charge
charged_told e d body cost s =
    ap (λ (t : State). give_up_row e t) (paid_told e d body cost s) ∙ given_up_told e d body (on_client_of e (λ c. record c { course = cost c.course }) s)

pub lost_told : (e : Exchange) (d : Brought) (body : Body) (s : State) → lose_attempt e (tell e d (use_body e body s)) ≡ tell e d (use_body e body (lose_attempt e s))
unfolding lose_attempt
lost_told e d body s =
    ap (λ (t : State). charge (lost_one (attempts_of e)) e t) (told_both_is e d body s)
    ∙ charged_told e d body (lost_one (attempts_of e)) s
    ∙ sym (told_both_is e d body (charge (lost_one (attempts_of e)) e s))

-- ---- a row that may not be shared

abbrev shared_if : ℕ → Client → Bool → Client
shared_if most c b = elim b as (λ u. Client) [ true ↦ record c { course = lost_one most c.course } | false ↦ without_row c ]

shared_told : (most : ℕ) (d : Brought) (c : Client) → without_shared_row most (told_client d c) ≡ told_client d (without_shared_row most c)
shared_told most d c = by (is_begun c) c.has_given_up refl refl
  where
    rest : (b : Bool) → shared_if most (told_client d c) b ≡ told_client d (shared_if most c b)
    rest true = course_told d (lost_one most) c
    rest false = row_told d c

    tests : (t u : Bool) → is_begun c ≡ t → c.has_given_up ≡ u → ((told_client d c).has_given_up && not (is_begun (told_client d c))) ≡ (c.has_given_up && not (is_begun c))
    tests t u is so = at (is_begun c)
      where
        at : (b : Bool) → ((told_client_if d c b).has_given_up && not (is_begun (told_client_if d c b))) ≡ (c.has_given_up && not (is_begun c))
        at true = refl
        at false = refl

    by : (t u : Bool) → is_begun c ≡ t → c.has_given_up ≡ u → without_shared_row most (told_client d c) ≡ told_client d (without_shared_row most c)
    by t u is so = ap (λ (b : Bool). shared_if most (told_client d c) b) (tests t u is so) ∙ rest (c.has_given_up && not (is_begun c))

shared_number : (most : ℕ) (c : Client) → (without_shared_row most c).number ≡ c.number
shared_number most c = by (c.has_given_up && not (is_begun c))
  where
    by : (b : Bool) → (shared_if most c b).number ≡ c.number
    by true = refl
    by false = without_row_number c

shared_free : (e : Exchange) (d : Brought) (most : ℕ) → AreFree (is_for e) (is_for e) (without_shared_row most) (told_client d)
shared_free e d most = record { first = for_told e d; second = λ c. ap (λ (n : ℕ). is_this n e.asker) (shared_number most c); both = shared_told most d }

shared_swapped : (e : Exchange) (d : Brought) (body : Body) (most : ℕ) (s : State) → on_client_of e (without_shared_row most) (told_both e d body s) ≡ told_both e d body (on_client_of e (without_shared_row most) s)
unfolding on_client_of
shared_swapped e d body most s = ap (λ (cs : List Client). with_both cs (uses_in e body s.exchanges) s) (swaps (is_for e) (is_for e) (without_shared_row most) (told_client d) (shared_free e d most) s.clients)

pub shared_rows_told : (e : Exchange) (d : Brought) (body : Body) (most : ℕ) (s : State) → on_client_of e (without_shared_row most) (tell e d (use_body e body s)) ≡ tell e d (use_body e body (on_client_of e (without_shared_row most) s))
shared_rows_told e d body most s =
    ap (λ (t : State). on_client_of e (without_shared_row most) t) (told_both_is e d body s)
    ∙ shared_swapped e d body most s
    ∙ sym (told_both_is e d body (on_client_of e (without_shared_row most) s))
