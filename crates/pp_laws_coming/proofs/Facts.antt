-- What is kept of clients, of exchanges and of rows.
use Rattle.std.proofs.Common.{◌≡◌, ◌⊎◌, refl, ℕ, ◌<◌, ◌≤◌, Bool, true, false, List, Option, Some, None, inl, inr, sym, subst, ap, ◌∙◌, lt_irrefl, arith}
use Rattle.pp_valid.specs.declared.version.Version.{Version}
use Rattle.pp_law.specs.Requests.{key_in}
use Rattle.pp_law.specs.Stages.{bound_of, filled_of, is_headed, passed_of}
use Rattle.pp_law.specs.State.{Bound, Client, Exchange, Instance}
use Rattle.pp_laws.specs.Runs.{IsIn}
use Rattle.pp_laws.proofs.Sound.{source_in}
use Rattle.pp_laws_turn.proofs.View.{FromRow, KeepsRows, RowsFrom, View}
use Rattle.pp_laws_coming.specs.Coming.{IsComing, Waits, is_waiting, may_have_ask}

-- ---- what holds

-- it is answered from that instance, which stands
pub record Follows (x : Instance) (c : Client) : Type 0 where
  pub stands : x.is_retired ≡ false
  pub source : source_in c.stage ≡ Some x.id

-- its body belongs to that instance
pub record IsBoundTo (id : ℕ) (e : Exchange) : Type 0 where
  pub to : Bound
  pub is : bound_of e ≡ Some to
  pub instance : to.instance ≡ id

-- of an exchange and its client
pub record IsTold (xs : List Instance) (e : Exchange) (c : Client) : Type 0 where
  pub waits : filled_of e ≡ None → is_headed e ≡ false → Waits c
  pub untold : is_headed e ≡ false → passed_of c ≡ None
  pub coming : IsComing c
  pub stands : may_have_ask c.stage ≡ true
  pub fills : (v : Version) → filled_of e ≡ Some v → is_waiting c.stage ≡ false
  pub left : e.body_left ≤ c.body_left
  pub key : key_in c.front ≡ Some e.key
  pub bound : filled_of e ≡ None → (x : Instance) → IsIn x xs → Follows x c → IsBoundTo x.id e

-- of a client: who is answered from an instance that stands is passed nothing, nor is who may have no exchange
pub record Settled (xs : List Instance) (next_row : ℕ) (c : Client) : Type 0 where
  pub given : (id : ℕ) → source_in c.stage ≡ Some id → id < next_row
  pub bare : (x : Instance) → IsIn x xs → Follows x c → passed_of c ≡ None
  pub unasked : may_have_ask c.stage ≡ false → passed_of c ≡ None

-- numbers are distinct
abbrev pub AreApart : List Exchange → Type 0
AreApart es = (d e : Exchange) → IsIn d es → IsIn e es → d.number ≡ e.number → d ≡ e

-- late in a turn each counts, and before that each that fills no hole
abbrev pub Counts : Bool → Exchange → Type 0
Counts late e = (late ≡ true) ⊎ (filled_of e ≡ None)

-- of these none is nobody's and nowhere
abbrev pub AreFollowers : Bool → List Exchange → Type 0
AreFollowers late es = (e : Exchange) → IsIn e es → Counts late e → e.place ≡ None → e.asker ≡ None → ⊥

-- where the exchanges of a client do not count, nothing is told of them
pub record Facts (late : Bool) (but : Option ℕ) (cs : List Client) (es : List Exchange) (next : ℕ) (xs : List Instance) (next_row : ℕ) : Type 0 where
  pub callers : (c d : Client) → IsIn c cs → IsIn d cs → c.number ≡ d.number → c ≡ d
  pub apart : AreApart es
  pub given : (e : Exchange) → IsIn e es → e.number < next
  pub one : (d e : Exchange) (n : ℕ) → IsIn d es → IsIn e es → d.asker ≡ Some n → e.asker ≡ Some n → d.number ≡ e.number
  pub fresh : (e : Exchange) → IsIn e es → e.place ≡ None → e.asked ≡ 0
  pub headed : (e : Exchange) → IsIn e es → is_headed e ≡ true → e.place ≡ None → ⊥
  pub placeless : AreFollowers late es
  pub rowed : (x : Instance) → IsIn x xs → x.id < next_row
  pub settled : (c : Client) → IsIn c cs → Settled xs next_row c
  pub told : (e : Exchange) (n : ℕ) (c : Client) → IsIn e es → IsIn c cs → e.asker ≡ Some n → c.number ≡ n → (but ≡ Some n → ⊥) → IsTold xs e c

abbrev pub ComingBut : Bool → Option ℕ → View → Type 0
ComingBut late but v = Facts late but v.clients v.exchanges v.next_exchange v.instances v.next_instance

abbrev pub Coming : Bool → View → Type 0
Coming late v = ComingBut late None v

-- before the asks are given up that wait elsewhere for nothing
abbrev pub Early : View → Type 0
Early v = Coming false v

-- ---- rows

-- of what was there
pub record WasFollowed (ys : List Instance) (x : Instance) (c : Client) : Type 0 where
  pub was : Instance
  pub there : IsIn was ys
  pub follows : Follows was c
  pub id : x.id ≡ was.id
  pub key : x.key ≡ was.key

pub was_followed : (v : View) (xs : List Instance) (next : ℕ) → RowsFrom v xs next → (x : Instance) (c : Client) → IsIn x xs → ((id : ℕ) → source_in c.stage ≡ Some id → id < v.next_instance) → Follows x c → WasFollowed v.instances x c
was_followed v xs next from x c i given follows = by (from.from x i)
  where
    stood : (t : Bool) → (t ≡ true → x.is_retired ≡ true) → t ≡ false
    stood false retired = refl
    stood true retired = let both : true ≡ false = sym (retired refl) ∙ follows.stands in absurd (cc both)

    by : FromRow v.instances x ⊎ ((x.id ≡ v.next_instance) × (x.id < next)) → WasFollowed v.instances x c
    by (inl w) = record { was = w.was; there = w.there; follows = record { stands = stood w.was.is_retired w.is.retired; source = follows.source ∙ ap (λ n. Some n) w.is.id }; id = w.is.id; key = w.is.key }
    by (inr w) = absurd (lt_irrefl v.next_instance (subst (λ n. n < v.next_instance) w.0 (given x.id follows.source)))

pub rows : {late : Bool} → KeepsRows (Coming late)
rows {late} xs next v from h = record {
  callers = h.callers;
  apart = h.apart;
  given = h.given;
  one = h.one;
  fresh = h.fresh;
  headed = h.headed;
  placeless = h.placeless;
  rowed = λ x i. rowed_by x (from.from x i);
  settled = λ c i. record {
    given = λ id is. (let lt : id < v.next_instance = (h.settled c i).given id is in let le : v.next_instance ≤ next = from.grows in omega arith);
    bare = λ x j follows. (let w = was_followed v xs next from x c j (h.settled c i).given follows in (h.settled c i).bare w.was w.there w.follows);
    unasked = (h.settled c i).unasked;
  };
  told = λ e n c i j asks is off. let told = h.told e n c i j asks is off in record {
    waits = told.waits;
    untold = told.untold;
    coming = told.coming;
    stands = told.stands;
    fills = told.fills;
    left = told.left;
    key = told.key;
    bound = λ fills x k follows. (
        let w = was_followed v xs next from x c k (h.settled c j).given follows in
        let b = told.bound fills w.was w.there w.follows in
        record { to = b.to; is = b.is; instance = b.instance ∙ sym w.id });
  };
}
  where
    rowed_by : (x : Instance) → FromRow v.instances x ⊎ ((x.id ≡ v.next_instance) × (x.id < next)) → x.id < next
    rowed_by x (inl w) = let lt : w.was.id < v.next_instance = h.rowed w.was w.there in let le : v.next_instance ≤ next = from.grows in let is : x.id ≡ w.was.id = w.is.id in omega arith
    rowed_by x (inr w) = w.1
