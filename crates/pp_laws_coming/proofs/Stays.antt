-- Which changes of clients keep it.
use Rattle.std.proofs.Common.{◌≡◌, refl, ℕ, ◌≤◌, Bool, true, false, List, map, Option, Some, None, sym, subst, ap, ◌∙◌, le_refl, le_trans}
use Rattle.pp_target.specs.Key.{Key}
use Rattle.pp_law.specs.Connections.{is_client}
use Rattle.pp_law.specs.Lists.{change, is_some_with}
use Rattle.pp_law.specs.Requests.{key_in}
use Rattle.pp_law.specs.Stages.{passed_of}
use Rattle.pp_law.specs.State.{Brought, Awaited, Useless, Joins, Passes, TooWide, Client, Exchange, Instance, Passed}
use Rattle.pp_laws.specs.Runs.{IsIn}
use Rattle.pp_laws.proofs.Lists.{Changed, changed_at, in_change, in_map, other, same}
use Rattle.pp_laws.proofs.Sound.{source_in}
use Rattle.pp_laws.proofs.Tests.{same_number}
use Rattle.pp_laws_coming.specs.Coming.{IsComing, Waits, is_waiting, may_have_ask}
use Rattle.pp_laws_coming.proofs.Facts.{Facts, Follows, IsTold, Settled}

-- ---- clients

-- it follows nothing else, its request is the same, and where nothing is passed to it nothing is
pub record Stays (d c : Client) : Type 0 where
  pub number : d.number ≡ c.number
  pub source : (id : ℕ) → source_in d.stage ≡ Some id → source_in c.stage ≡ Some id
  pub front : (key : Key) → key_in c.front ≡ Some key → key_in d.front ≡ Some key
  pub untold : passed_of c ≡ None → passed_of d ≡ None
  pub stands : may_have_ask c.stage ≡ true → may_have_ask d.stage ≡ true

-- and it waits where it did, and no less is to come
pub record Goes (d c : Client) : Type 0 where
  pub stays : Stays d c
  pub waits : Waits c → Waits d
  pub coming : IsComing c → IsComing d
  pub answers : is_waiting c.stage ≡ false → is_waiting d.stage ≡ false
  pub left : (key : Key) → key_in c.front ≡ Some key → c.body_left ≤ d.body_left

pub stays_on : (c : Client) → Stays c c
stays_on c = record { number = refl; source = λ id is. is; front = λ key is. is; untold = λ none. none; stands = λ is. is }

pub goes_on : (c : Client) → Goes c c
goes_on c = record { stays = stays_on c; waits = λ w. w; coming = λ is. is; answers = λ off. off; left = λ key is. le_refl c.body_left }

abbrev pub passed_in : Brought → Option Passed
passed_in b = elim b as (λ x. Option Passed) [ Awaited ↦ None | Useless ↦ None | Joins id plain ↦ None | Passes p ↦ Some p | TooWide ↦ None ]

-- the body of what is passed is whole
abbrev pub is_whole_in : Brought → Bool
is_whole_in b = is_some_with (λ p. p.pipe.is_finished) (elim b as (λ x. Option Passed) [ Awaited ↦ None | Useless ↦ None | Joins id plain ↦ None | Passes p ↦ Some p | TooWide ↦ None ])

pub goes_at : (d c : Client) → d.number ≡ c.number → ((key : Key) → key_in c.front ≡ Some key → key_in d.front ≡ Some key) → d.stage ≡ c.stage → d.brought ≡ c.brought → ((key : Key) → key_in c.front ≡ Some key → c.body_left ≤ d.body_left) → Goes d c
goes_at d c number front stage brought left = record {
  left = left;
  stays = record { number = number; source = λ id is. sym (ap source_in stage) ∙ is; front = front; untold = λ none. ap passed_in brought ∙ none; stands = λ is. ap may_have_ask stage ∙ is };
  waits = λ w. record { stage = ap is_waiting stage ∙ w.stage; brought = brought ∙ w.brought };
  coming = λ is. ap is_whole_in brought ∙ is;
  answers = λ off. ap is_waiting stage ∙ off;
}

pub goes_as : (d c : Client) → d.number ≡ c.number → d.front ≡ c.front → d.stage ≡ c.stage → d.brought ≡ c.brought → d.body_left ≡ c.body_left → Goes d c
goes_as d c number front stage brought left = goes_at d c number (λ key is. ap key_in front ∙ is) stage brought (λ key is. subst (λ n. c.body_left ≤ n) (sym left) (le_refl c.body_left))

pub goes_if : (f : Client → Client) (c : Client) (t : Bool) → Goes (f c) c → Goes (elim t as (λ x. Client) [ true ↦ f c | false ↦ c ]) c
goes_if f c true goes = goes
goes_if f c false goes = goes_on c

-- who follows nothing is
pub unsourced : (xs : List Instance) (next_row : ℕ) (c : Client) → source_in c.stage ≡ None → (may_have_ask c.stage ≡ false → passed_of c ≡ None) → Settled xs next_row c
unsourced xs next_row c none unasked = record {
  unasked = unasked;
  given = λ id is. (let both : None ≡ Some id = sym none ∙ is in absurd (cc both));
  bare = λ x i follows. (let both : None ≡ Some x.id = sym none ∙ follows.source in absurd (cc both));
}

follows_on : (x : Instance) (d c : Client) → Stays d c → Follows x d → Follows x c
follows_on x d c stays follows = record { stands = follows.stands; source = stays.source x.id follows.source }

settled_on : (xs : List Instance) (next_row : ℕ) (d c : Client) → Stays d c → Settled xs next_row c → Settled xs next_row d
settled_on xs next_row d c stays settled = record {
  given = λ id is. settled.given id (stays.source id is);
  bare = λ x i follows. stays.untold (settled.bare x i (follows_on x d c stays follows));
  unasked = λ off. stays.untold (settled.unasked (less (may_have_ask c.stage) refl off));
}
  where
    less : (t : Bool) → may_have_ask c.stage ≡ t → may_have_ask d.stage ≡ false → t ≡ false
    less true on off = let both : true ≡ false = sym (stays.stands on) ∙ off in absurd (cc both)
    less false isnt off = refl

told_on : (xs : List Instance) (e : Exchange) (d c : Client) → Goes d c → IsTold xs e c → IsTold xs e d
told_on xs e d c goes told = record {
  waits = λ fills off. goes.waits (told.waits fills off);
  untold = λ off. goes.stays.untold (told.untold off);
  coming = goes.coming told.coming;
  stands = goes.stays.stands told.stands;
  fills = λ v is. goes.answers (told.fills v is);
  left = le_trans told.left (goes.left e.key told.key);
  key = goes.stays.front e.key told.key;
  bound = λ fills x i follows. told.bound fills x i (follows_on x d c goes.stays follows);
}

pub callers_mapped : (f : Client → Client) (cs : List Client) → ((c : Client) → (f c).number ≡ c.number) → ((c d : Client) → IsIn c cs → IsIn d cs → c.number ≡ d.number → c ≡ d) → (c d : Client) → IsIn c (map f cs) → IsIn d (map f cs) → c.number ≡ d.number → c ≡ d
callers_mapped f cs number one c d i j eq =
    let p = in_map f c cs i in
    let r = in_map f d cs j in
    p.is ∙ ap f (one p.was r.was p.there r.there (sym (number p.was) ∙ ap (λ (x : Client). x.number) (sym p.is) ∙ eq ∙ ap (λ (x : Client). x.number) r.is ∙ number r.was)) ∙ sym r.is

-- those that go on so, and whatever else is made of those whose exchanges do not count
pub clients_but : {late : Bool} (but : Option ℕ) (f : Client → Client) (cs : List Client) (es : List Exchange) (next : ℕ) (xs : List Instance) (next_row : ℕ) → ((c : Client) → (f c).number ≡ c.number) → ((c : Client) → IsIn c cs → Stays (f c) c) → ((c : Client) → IsIn c cs → (but ≡ Some c.number → ⊥) → Goes (f c) c)
    → Facts late but cs es next xs next_row → Facts late but (map f cs) es next xs next_row
clients_but but f cs es next xs next_row number stays goes h = record {
  callers = callers_mapped f cs number h.callers;
  apart = h.apart;
  given = h.given;
  one = h.one;
  fresh = h.fresh;
  headed = h.headed;
  placeless = h.placeless;
  rowed = h.rowed;
  settled = λ d j. let r = in_map f d cs j in subst (λ (x : Client). Settled xs next_row x) (sym r.is) (settled_on xs next_row (f r.was) r.was (stays r.was r.there) (h.settled r.was r.there));
  told = λ e n d i j asks is off.
      let r = in_map f d cs j in
      let its : r.was.number ≡ n = sym (number r.was) ∙ ap (λ (x : Client). x.number) (sym r.is) ∙ is in
      subst (λ (x : Client). IsTold xs e x) (sym r.is) (told_on xs e (f r.was) r.was (goes r.was r.there (λ hit. off (hit ∙ ap (λ k. Some k) its))) (h.told e n r.was i r.there asks its off));
}

-- of those that are there
pub clients_come : {late : Bool} (but : Option ℕ) (f : Client → Client) (cs : List Client) (es : List Exchange) (next : ℕ) (xs : List Instance) (next_row : ℕ) → ((c : Client) → (f c).number ≡ c.number) → ((c : Client) → IsIn c cs → Goes (f c) c) → Facts late but cs es next xs next_row → Facts late but (map f cs) es next xs next_row
clients_come but f cs es next xs next_row number goes h = clients_but but f cs es next xs next_row number (λ c i. (goes c i).stays) (λ c i off. goes c i) h

-- where the exchanges of one do not count any more
pub but_more : {late : Bool} (but : Option ℕ) (cs : List Client) (es : List Exchange) (next : ℕ) (xs : List Instance) (next_row : ℕ) → Facts late None cs es next xs next_row → Facts late but cs es next xs next_row
but_more but cs es next xs next_row h = record {
  callers = h.callers;
  apart = h.apart;
  given = h.given;
  one = h.one;
  fresh = h.fresh;
  headed = h.headed;
  placeless = h.placeless;
  rowed = h.rowed;
  settled = h.settled;
  told = λ e n c i j asks is off. h.told e n c i j asks is (λ none. cc none);
}

-- those of one number, whatever else is made of them: nothing is told of their exchanges
pub client_but : {late : Bool} (n : ℕ) (f : Client → Client) (cs : List Client) (es : List Exchange) (next : ℕ) (xs : List Instance) (next_row : ℕ) → ((c : Client) → (f c).number ≡ c.number) → ((c : Client) → IsIn c cs → c.number ≡ n → Settled xs next_row (f c)) → Facts late None cs es next xs next_row
    → Facts late (Some n) (change (is_client n) f cs) es next xs next_row
client_but n f cs es next xs next_row number settled h = record {
  callers = callers_mapped (changed_at (is_client n) f) cs (λ c. by c (is_client n c)) h.callers;
  apart = h.apart;
  given = h.given;
  one = h.one;
  fresh = h.fresh;
  headed = h.headed;
  placeless = h.placeless;
  rowed = h.rowed;
  settled = λ d j. settled_by d (in_change (is_client n) f d cs j);
  told = λ e m d i j asks is off. told_by e m d i asks is off (in_change (is_client n) f d cs j);
}
  where
    by : (c : Client) (t : Bool) → (elim t as (λ x. Client) [ true ↦ f c | false ↦ c ]).number ≡ c.number
    by c true = number c
    by c false = refl

    settled_by : (d : Client) → Changed (is_client n) f cs d → Settled xs next_row d
    settled_by d (same j isnt) = h.settled d j
    settled_by d (other c j hit eq) = subst (λ (x : Client). Settled xs next_row x) (sym eq) (settled c j (same_number c.number n hit))

    told_by : (e : Exchange) (m : ℕ) (d : Client) → IsIn e es → e.asker ≡ Some m → d.number ≡ m → (Some n ≡ Some m → ⊥) → Changed (is_client n) f cs d → IsTold xs e d
    told_by e m d i asks is off (same j isnt) = h.told e m d i j asks is (λ none. cc none)
    told_by e m d i asks is off (other c j hit eq) = absurd (off (ap (λ k. Some k) (sym (same_number c.number n hit) ∙ sym (number c) ∙ ap (λ (x : Client). x.number) (sym eq) ∙ is)))
