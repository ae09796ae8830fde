-- The head of a reply from an instance is the law's.
use Rattle.std.proofs.Common.{◌≡◌, refl, sym, subst, ap, ap₂, ◌∙◌, ℕ, Bool, true, false, ◌==◌, ◌&&◌, List, [], Option, Some, None, arith}
use Rattle.std.proofs.lemmas.Bool.Decides.{nat_tests}
use Rattle.pp_cache_law.proofs.Numbers.{is_same, true_false}
use Rattle.pp_client.specs.Replies.{Reply as Said}
use Rattle.pp_fresh.specs.Age.{age_of}
use Rattle.pp_fresh.specs.declared.aging.Times.{Times}
use Rattle.pp_law.specs.Lists.{Bytes}
use Rattle.pp_law.specs.Replies.{age_shown as age_by_law, has_plain_age as has_plain_by, instance_head, is_part as is_part_by}
use Rattle.pp_law.specs.Requests.{Front, Parsed, keeps_open}
use Rattle.pp_law.specs.State.{State, Client, Instance as Known, Brought, Awaited, Useless, Joins, Passes, TooWide}
use Rattle.pp_objects.specs.Instances.{is_same_id}
use Rattle.pp_objects.specs.declared.id.ObjectId.{ObjectId}
use Rattle.pp_plan.specs.Spans.{resolved}
use Rattle.pp_ranges.specs.declared.range.Resolved.{Resolved}
use Rattle.pp_ranges.specs.declared.range.Resolved.TheVariants.{Whole as OfAll, Part as OfPart, Unsatisfiable as OfNone}
use Rattle.pp_reply.specs.Kept.{kept_reply, not_modified_head, part_head, unsatisfiable_page, whole_head}
use Rattle.pp_seats.specs.Dues.{is_refused_in}
use Rattle.pp_seats.specs.declared.seat.Brought.{Brought as SeatBrought}
use Rattle.pp_seats.specs.declared.seat.Brought.TheVariants.{Awaited as NoneYet, Useless as NoneOfUse, Joins as JoinsRow, Passes as PassesOn, TooWide as IsTooWide, Refused}
use Rattle.pp_seats.specs.declared.seat.Course.{Course as SeatCourse}
use Rattle.pp_seats_law.specs.Dues.{AreApart}
use Rattle.pp_seats_law.specs.Replies.{ShowsBrought, ShowsFate}
use Rattle.pp_steps.specs.Begins.{has_plain_age, is_part, shows_of}
use Rattle.pp_text.specs.Fields.{Field}
use Rattle.pp_world.specs.declared.note.Decision.{Decision}
use Rattle.pp_world.specs.declared.note.Decision.TheVariants.{Refuse, Hit, Part, Head, NotModified, Unsatisfiable, Relay, Validate, Fetch, Pass}
use Rattle.pp_law.specs.Deciding.{span_of}
use Rattle.pp_turns_law.specs.Begins.{is_kept_by}

-- ---- whether a part is asked for

pub part_same : (o : Resolved) → is_part o ≡ is_part_by o
part_same OfAll = refl
part_same (OfPart from to) = refl
part_same OfNone = refl

-- ---- its age

itself : (id : ObjectId) → is_same_id id id ≡ true
itself id = grind (arith, nat_tests)

false_if : (b : Bool) → (b ≡ true → ⊥) → b ≡ false
false_if true isnt = absurd (isnt refl)
false_if false isnt = refl

same_life : (a b : ObjectId) → is_same_id a b ≡ true → a.life ≡ b.life
same_life a b is = is_same a.life b.life (second (a.slot == b.slot) (a.life == b.life) is)
  where
    second : (x y : Bool) → (x && y) ≡ true → y ≡ true
    second true y e = e
    second false y e = absurd (cc e)

joins_same : (number : ℕ → ℕ) (id joined : ObjectId) (n k : ℕ) (plain : Bool) → AreApart number (Some id) (JoinsRow joined plain) → number joined.life ≡ n → number id.life ≡ k → is_same_id joined id ≡ (n == k)
joins_same number id joined n k plain apart is its = by (n == k) refl
  where
    same : (m j : ℕ) → m ≡ j → (m == j) ≡ true
    same m j e = grind (arith, nat_tests, e)

    by : (b : Bool) → (n == k) ≡ b → is_same_id joined id ≡ b
    by true e = subst (λ (x : ObjectId). is_same_id joined x ≡ true) (sym (apart id joined plain refl refl (its ∙ sym (is_same n k e) ∙ sym is))) (itself joined)
    by false e =
        false_if (is_same_id joined id) (λ one. absurd (true_false (sym (same n k (sym is ∙ ap number (same_life joined id one) ∙ its)) ∙ e)))

plain_same : (number : ℕ → ℕ) (name : Bytes) (said : Said) (front : Front) (brought : SeatBrought) (other : Brought) (id : ObjectId) (k : ℕ) → ShowsBrought number name said front brought other → AreApart number (Some id) brought → number id.life ≡ k
    → has_plain_age id brought ≡ has_plain_by k other
plain_same number name said front NoneYet Awaited id k shows apart its = refl
plain_same number name said front NoneOfUse Useless id k shows apart its = refl
plain_same number name said front (JoinsRow joined plain) (Joins n other) id k shows apart its = ap₂ (λ (a b : Bool). a && b) (joins_same number id joined n k plain apart shows.0 its) shows.1
plain_same number name said front (PassesOn x) (Passes p) id k shows apart its = refl
plain_same number name said front IsTooWide TooWide id k shows apart its = refl
plain_same number name said front brought other id k shows apart its = absurd shows

pub plain_is : (number : ℕ → ℕ) (name : Bytes) (owed : List Bytes) (said : Said) (course : SeatCourse) (brought : SeatBrought) (c : Client) (id : ObjectId) (k : ℕ) → ShowsFate number name owed said course brought c → is_refused_in brought ≡ false
    → AreApart number (Some id) brought → number id.life ≡ k → has_plain_age id brought ≡ has_plain_by k c.brought
plain_is number name owed said course Refused c id k shows isnt apart its = absurd (cc isnt)
plain_is number name owed said course NoneYet c id k shows isnt apart its = plain_same number name said c.front NoneYet c.brought id k shows.1 apart its
plain_is number name owed said course NoneOfUse c id k shows isnt apart its = plain_same number name said c.front NoneOfUse c.brought id k shows.1 apart its
plain_is number name owed said course (JoinsRow joined plain) c id k shows isnt apart its = plain_same number name said c.front (JoinsRow joined plain) c.brought id k shows.1 apart its
plain_is number name owed said course (PassesOn x) c id k shows isnt apart its = plain_same number name said c.front (PassesOn x) c.brought id k shows.1 apart its
plain_is number name owed said course IsTooWide c id k shows isnt apart its = plain_same number name said c.front IsTooWide c.brought id k shows.1 apart its

-- ---- all of it

-- by whether a part is asked for, the length of the body, the kept fields, the age, the name of the proxy, and whether the connection
-- goes on
abbrev head_by : Decision → Bool → ℕ → List Field → Option ℕ → Bytes → Bool → Bytes
head_by (Hit from to) part n fields age name keep = elim part [ true ↦ part_head from to n fields age name keep | false ↦ whole_head n fields age name keep ]
head_by (Part from to) part n fields age name keep = elim part [ true ↦ part_head from to n fields age name keep | false ↦ whole_head n fields age name keep ]
head_by Head part n fields age name keep = whole_head n fields age name keep
head_by NotModified part n fields age name keep = not_modified_head fields age name keep
head_by Unsatisfiable part n fields age name keep = unsatisfiable_page n keep
head_by d part n fields age name keep = []

law_head : (s : State) (r : Parsed) (c : Client) (x : Known) (d : Decision)
    → instance_head s r c x d ≡ head_by d (is_part_by (resolved r.head.fields x.version)) x.version.length x.fields (age_by_law s c x) s.settings.name (keeps_open r)
law_head s r c x (Hit from to) = refl
law_head s r c x (Part from to) = refl
law_head s r c x Head = refl
law_head s r c x NotModified = refl
law_head s r c x Unsatisfiable = refl
law_head s r c x (Refuse status) = refl
law_head s r c x Relay = refl
law_head s r c x Validate = refl
law_head s r c x Fetch = refl
law_head s r c x Pass = refl

seat_head : (d : Decision) (span : ℕ × ℕ) (part : Bool) (n : ℕ) (fields : List Field) (age : Option ℕ) (name : Bytes) (keep : Bool) → is_kept_by d ≡ true → span.0 ≡ (span_of d).0 → span.1 ≡ (span_of d).1
    → kept_reply (shows_of d span part) n fields age name keep ≡ head_by d part n fields age name keep
seat_head (Hit from to) span true n fields age name keep is first last = ap₂ (λ (a b : ℕ). part_head a b n fields age name keep) first last
seat_head (Hit from to) span false n fields age name keep is first last = refl
seat_head (Part from to) span true n fields age name keep is first last = ap₂ (λ (a b : ℕ). part_head a b n fields age name keep) first last
seat_head (Part from to) span false n fields age name keep is first last = refl
seat_head Head span part n fields age name keep is first last = refl
seat_head NotModified span part n fields age name keep is first last = refl
seat_head Unsatisfiable span part n fields age name keep is first last = refl
seat_head (Refuse status) span part n fields age name keep is first last = absurd (cc is)
seat_head Relay span part n fields age name keep is first last = absurd (cc is)
seat_head Validate span part n fields age name keep is first last = absurd (cc is)
seat_head Fetch span part n fields age name keep is first last = absurd (cc is)
seat_head Pass span part n fields age name keep is first last = absurd (cc is)

-- of the same version and fields, with the same age and name
pub head_same : (s : State) (r : Parsed) (c : Client) (x : Known) (d : Decision) (span : ℕ × ℕ) (part keep plain : Bool) (n : ℕ) (fields : List Field) (times : Times) (now : ℕ) (name : Bytes) → is_kept_by d ≡ true → span.0 ≡ (span_of d).0
    → span.1 ≡ (span_of d).1 → part ≡ is_part_by (resolved r.head.fields x.version) → n ≡ x.version.length → fields ≡ x.fields → times ≡ x.times → now ≡ s.clock → name ≡ s.settings.name → keep ≡ keeps_open r
    → plain ≡ has_plain_by x.id c.brought
    → kept_reply (shows_of d span part) n fields (elim plain [ true ↦ None | false ↦ Some (age_of times now) ]) name keep ≡ instance_head s r c x d
head_same s r c x d span part keep plain n fields times now name is first last asks length same times_same clock named keeps age =
    let old : Option ℕ = elim plain [ true ↦ None | false ↦ Some (age_of times now) ] in
    let aged : old ≡ age_by_law s c x =
    ap (λ (b : Bool). elim b as (λ t. Option ℕ) [ true ↦ None | false ↦ Some (age_of times now) ]) age
    ∙ ap₂ (λ (t : Times) (m : ℕ). elim (has_plain_by x.id c.brought) as (λ t. Option ℕ) [ true ↦ None | false ↦ Some (age_of t m) ]) times_same clock in
    seat_head d span part n fields old name keep is first last
    ∙ ap₂ (λ (a : Bool) (m : ℕ). head_by d a m fields old name keep) asks length
    ∙ ap₂ (λ (fs : List Field) (o : Option ℕ). head_by d (is_part_by (resolved r.head.fields x.version)) x.version.length fs o name keep) same aged
    ∙ ap₂ (λ (b : Bytes) (k : Bool). head_by d (is_part_by (resolved r.head.fields x.version)) x.version.length x.fields (age_by_law s c x) b k) named keeps
    ∙ sym (law_head s r c x d)
