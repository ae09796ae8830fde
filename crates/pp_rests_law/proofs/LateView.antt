-- Which rows stand from the first that came in this turn on: none, or those of these keys; and what each change of rows keeps of it.
use Rattle.std.proofs.Common.{◌≡◌, ◌⊎◌, inl, inr, refl, sym, subst, ap, ◌∙◌, ℕ, Bool, true, false, not, cond, List, [], ◌∷◌, ◌++◌, map, filter, Option, Some, None}
use Rattle.pp_law.specs.Lists.{Bytes, change}
use Rattle.pp_law.specs.Opening.{is_same_phase}
use Rattle.pp_law.specs.Phases.{is_free}
use Rattle.pp_law.specs.State.{State, Awaiting, Instance, Owed, Phase}
use Rattle.pp_laws.proofs.Lists.{From, changed_at, in_append, in_filter, in_map, moved}
use Rattle.pp_laws.specs.Runs.{IsIn}
use Rattle.pp_laws_fields.proofs.View.{AreOwn}
use Rattle.pp_rests_law.specs.Late.{is_row, since_new}

-- no row is new, or all that stand there have these keys; whether an event came, and whether what it owed was read or written
pub record Keys : Type 0 where
  pub keys : Option (List Bytes)
  pub is_amid : Bool
  pub is_done : Bool

abbrev pub AreLate : Option (List Bytes) → List Instance → Type 0
AreLate None xs = (x : Instance) → IsIn x xs → x.is_new ≡ false
AreLate (Some ks) xs = (x : Instance) → IsIn x (since_new xs) → is_row x ≡ true → IsIn x.key ks

-- a row of that key may come to the end, and may be new there
abbrev pub MayComeIn : Option (List Bytes) → Bool → Bytes → Type 0
MayComeIn None true key = ⊥
MayComeIn None false key = Unit {0}
MayComeIn (Some ks) is_new key = IsIn key ks

abbrev pub MayCome : Keys → Bool → Bytes → Type 0
MayCome o is_new key = MayComeIn o.keys is_new key

pub may_old : (o : Keys) (key : Bytes) → MayCome o true key → MayCome o false key
may_old o key = by o.keys
  where
    by : (u : Option (List Bytes)) → MayComeIn u true key → MayComeIn u false key
    by None may = tt
    by (Some ks) may = may

abbrev pub IsAmid : Bool → Phase → Type 0
IsAmid false phase = Unit {0}
IsAmid true phase = is_same_phase Awaiting phase ≡ false

abbrev pub IsDone : Bool → Owed → Type 0
IsDone false owed = Unit {0}
IsDone true owed = is_free owed ≡ true

pub record Facts (o : Keys) (instances : List Instance) (next : ℕ) (phase : Phase) (owed : Owed) : Type 0 where
  pub own : AreOwn instances next
  pub late : AreLate o.keys instances
  pub amid : IsAmid o.is_amid phase
  pub done : IsDone o.is_done owed

abbrev pub FactsOf : Keys → State → Type 0
FactsOf o s = Facts o s.instances s.next_instance s.phase s.owed

pub data Holds (o : Keys) (s : State) : Type 0 where
  holds : FactsOf o s → Holds o s

pub facts_of : {o : Keys} {s : State} → Holds o s → FactsOf o s
facts_of (holds facts) = facts

-- none is new; as it is read; and behind what was read
abbrev pub nothing : Keys
nothing = record { keys = None; is_amid = false; is_done = false }

abbrev pub reading : List Bytes → Keys
reading ks = record { keys = Some ks; is_amid = true; is_done = false }

abbrev pub read : List Bytes → Keys
read ks = record { keys = Some ks; is_amid = true; is_done = true }

-- ---- from the first new one on

pub since_in : (xs : List Instance) (x : Instance) → IsIn x (since_new xs) → IsIn x xs
since_in [] x i = absurd i
since_in (y ∷ ys) x i = by y.is_new i (since_in ys x)
  where
    by : (b : Bool) → IsIn x (elim b as (λ t. List Instance) [ true ↦ y ∷ ys | false ↦ since_new ys ]) → (IsIn x (since_new ys) → IsIn x ys) → IsIn x (y ∷ ys)
    by true j rest = j
    by false j rest = inr (rest j)

since_filtered : (p : Instance → Bool) (xs : List Instance) (x : Instance) → IsIn x (since_new (filter p xs)) → IsIn x (since_new xs)
since_filtered p [] x i = absurd i
since_filtered p (y ∷ ys) x i = by (p y) y.is_new refl i (since_filtered p ys x)
  where
    later : (n : Bool) → IsIn x (since_new ys) → IsIn x (elim n as (λ t. List Instance) [ true ↦ y ∷ ys | false ↦ since_new ys ])
    later true j = inr (since_in ys x j)
    later false j = j

    new : IsIn x (y ∷ filter p ys) → IsIn x (y ∷ ys)
    new (inl e) = inl e
    new (inr j) = inr (in_filter p x ys j).0

    at : (n : Bool) → IsIn x (elim n as (λ t. List Instance) [ true ↦ y ∷ filter p ys | false ↦ since_new (filter p ys) ]) → (IsIn x (since_new (filter p ys)) → IsIn x (since_new ys)) → IsIn x (elim n as (λ t. List Instance) [ true ↦ y ∷ ys | false ↦ since_new ys ])
    at true j rest = new j
    at false j rest = rest j

    by : (b n : Bool) → y.is_new ≡ n → IsIn x (since_new (cond b (y ∷ filter p ys) (filter p ys))) → (IsIn x (since_new (filter p ys)) → IsIn x (since_new ys)) → IsIn x (since_new (y ∷ ys))
    by true n is j rest = at y.is_new j rest
    by false n is j rest = later y.is_new (rest j)

since_mapped : (f : Instance → Instance) → ((y : Instance) → (f y).is_new ≡ y.is_new) → (xs : List Instance) (x : Instance) → IsIn x (since_new (map f xs)) → (y : Instance) × IsIn y (since_new xs) × (x ≡ f y)
since_mapped f same [] x i = absurd i
since_mapped f same (y ∷ ys) x i = by y.is_new (subst (λ (b : Bool). IsIn x (elim b as (λ t. List Instance) [ true ↦ f y ∷ map f ys | false ↦ since_new (map f ys) ])) (same y) i) (since_mapped f same ys x)
  where
    new : IsIn x (f y ∷ map f ys) → (z : Instance) × IsIn z (y ∷ ys) × (x ≡ f z)
    new (inl e) = (y, inl refl, e)
    new (inr j) = let r : From f ys x = in_map f x ys j in (r.was, inr r.there, r.is)

    by : (b : Bool) → IsIn x (elim b as (λ t. List Instance) [ true ↦ f y ∷ map f ys | false ↦ since_new (map f ys) ]) → (IsIn x (since_new (map f ys)) → (z : Instance) × IsIn z (since_new ys) × (x ≡ f z))
        → (z : Instance) × IsIn z (elim b as (λ t. List Instance) [ true ↦ y ∷ ys | false ↦ since_new ys ]) × (x ≡ f z)
    by true j rest = new j
    by false j rest = rest j

since_joined : (xs zs : List Instance) (x : Instance) → IsIn x (since_new (xs ++ zs)) → IsIn x (since_new xs) ⊎ IsIn x zs
since_joined [] zs x i = inr (since_in zs x i)
since_joined (y ∷ ys) zs x i = by y.is_new i (since_joined ys zs x)
  where
    new : IsIn x (y ∷ ys ++ zs) → IsIn x (y ∷ ys) ⊎ IsIn x zs
    new j = in_append x (y ∷ ys) zs j

    by : (b : Bool) → IsIn x (elim b as (λ t. List Instance) [ true ↦ y ∷ ys ++ zs | false ↦ since_new (ys ++ zs) ]) → (IsIn x (since_new (ys ++ zs)) → IsIn x (since_new ys) ⊎ IsIn x zs)
        → IsIn x (elim b as (λ t. List Instance) [ true ↦ y ∷ ys | false ↦ since_new ys ]) ⊎ IsIn x zs
    by true j rest = new j
    by false j rest = rest j

-- ---- what becomes of them

pub late_filtered : (o : Option (List Bytes)) (p : Instance → Bool) (xs : List Instance) → AreLate o xs → AreLate o (filter p xs)
late_filtered None p xs h = λ x i. h x (in_filter p x xs i).0
late_filtered (Some ks) p xs h = λ x i row. h x (since_filtered p xs x i) row

-- each has its key, is new where it was, and is no row where it was none
pub record KeepsRow (f : Instance → Instance) : Type 0 where
  pub id : (x : Instance) → (f x).id ≡ x.id
  pub key : (x : Instance) → (f x).key ≡ x.key
  pub is_new : (x : Instance) → (f x).is_new ≡ x.is_new
  pub row : (x : Instance) → is_row (f x) ≡ true → is_row x ≡ true

pub late_mapped : (o : Option (List Bytes)) (f : Instance → Instance) (xs : List Instance) → KeepsRow f → AreLate o xs → AreLate o (map f xs)
late_mapped None f xs keeps h = λ x i. let r : From f xs x = in_map f x xs i in ap (λ (y : Instance). y.is_new) r.is ∙ keeps.is_new r.was ∙ h r.was r.there
late_mapped (Some ks) f xs keeps h = λ x i row.
    let r : (y : Instance) × IsIn y (since_new xs) × (x ≡ f y) = since_mapped f keeps.is_new xs x i in
    subst (λ (k : Bytes). IsIn k ks) (sym (ap (λ (y : Instance). y.key) r.2 ∙ keeps.key r.0)) (h r.0 r.1 (keeps.row r.0 (sym (ap is_row r.2) ∙ row)))

changed_keeps : (p : Instance → Bool) (f : Instance → Instance) → KeepsRow f → KeepsRow (changed_at p f)
changed_keeps p f keeps = record { id = λ x. by_id x (p x); key = λ x. by_key x (p x); is_new = λ x. by_new x (p x); row = λ x. by_row x (p x) }
  where
    by_id : (x : Instance) (t : Bool) → (elim t as (λ c. Instance) [ true ↦ f x | false ↦ x ]).id ≡ x.id
    by_id x true = keeps.id x
    by_id x false = refl

    by_key : (x : Instance) (t : Bool) → (elim t as (λ c. Instance) [ true ↦ f x | false ↦ x ]).key ≡ x.key
    by_key x true = keeps.key x
    by_key x false = refl

    by_new : (x : Instance) (t : Bool) → (elim t as (λ c. Instance) [ true ↦ f x | false ↦ x ]).is_new ≡ x.is_new
    by_new x true = keeps.is_new x
    by_new x false = refl

    by_row : (x : Instance) (t : Bool) → is_row (elim t as (λ c. Instance) [ true ↦ f x | false ↦ x ]) ≡ true → is_row x ≡ true
    by_row x true = keeps.row x
    by_row x false = λ is. is

pub late_changed : (o : Option (List Bytes)) (p : Instance → Bool) (f : Instance → Instance) (xs : List Instance) → KeepsRow f → AreLate o xs → AreLate o (change p f xs)
late_changed o p f xs keeps h = late_mapped o (changed_at p f) xs (changed_keeps p f keeps) h

-- those of one key come to the end
pub late_moved : (o : Option (List Bytes)) (p : Instance → Bool) (key : Bytes) (xs : List Instance) → ((x : Instance) → IsIn x xs → p x ≡ true → x.key ≡ key) → MayComeIn o false key → AreLate o xs → AreLate o (moved p xs)
late_moved None p key xs same may h = λ x i. by x (in_append x (filter (λ y. not (p y)) xs) (filter p xs) i)
  where
    by : (x : Instance) → IsIn x (filter (λ y. not (p y)) xs) ⊎ IsIn x (filter p xs) → x.is_new ≡ false
    by x (inl j) = h x (in_filter (λ y. not (p y)) x xs j).0
    by x (inr j) = h x (in_filter p x xs j).0
late_moved (Some ks) p key xs same may h = λ x i row. by x row (since_joined (filter (λ y. not (p y)) xs) (filter p xs) x i)
  where
    by : (x : Instance) → is_row x ≡ true → IsIn x (since_new (filter (λ y. not (p y)) xs)) ⊎ IsIn x (filter p xs) → IsIn x.key ks
    by x row (inl j) = h x (since_filtered (λ y. not (p y)) xs x j) row
    by x row (inr j) = let w : IsIn x xs × (p x ≡ true) = in_filter p x xs j in subst (λ (k : Bytes). IsIn k ks) (sym (same x w.0 w.1)) may

pub late_pushed : (o : Option (List Bytes)) (y : Instance) (xs : List Instance) → MayComeIn o y.is_new y.key → AreLate o xs → AreLate o (xs ++ y ∷ [])
late_pushed None y xs may h = λ x i. by x (in_append x xs (y ∷ []) i)
  where
    old : (b : Bool) → y.is_new ≡ b → MayComeIn None b y.key → b ≡ false
    old true is never = absurd never
    old false is any = refl

    by : (x : Instance) → IsIn x xs ⊎ IsIn x (y ∷ []) → x.is_new ≡ false
    by x (inl j) = h x j
    by x (inr (inl e)) = ap (λ (z : Instance). z.is_new) e ∙ old y.is_new refl may
    by x (inr (inr j)) = absurd j
late_pushed (Some ks) y xs may h = λ x i row. by x row (since_joined xs (y ∷ []) x i)
  where
    by : (x : Instance) → is_row x ≡ true → IsIn x (since_new xs) ⊎ IsIn x (y ∷ []) → IsIn x.key ks
    by x row (inl j) = h x j row
    by x row (inr (inl e)) = subst (λ (k : Bytes). IsIn k ks) (sym (ap (λ (z : Instance). z.key) e)) may
    by x row (inr (inr j)) = absurd j
