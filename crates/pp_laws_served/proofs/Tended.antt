-- Who has no request has room for one, and of whom nothing is left is closing.
use Rattle.std.proofs.Common.{◌≡◌, ◌⊎◌, refl, ℕ, ◌-◌, ◌<◌, ◌≤◌, nat_lt, Bool, true, false, not, ◌&&◌, ◌||◌, List, ◌++◌, map, drop, length, inl, inr, sym, subst, ap, ◌∙◌, arith}
use Rattle.std.proofs.lemmas.Bool.Decides.{nat_tests}
use Rattle.pp_head.specs.Read.{Read, Whole, TooLong, Bad, More}
use Rattle.pp_head.specs.Request.{Request, request_at}
use Rattle.pp_head.proofs.RequestAgrees.{request_holds}
use Rattle.pp_head.specs.Agreement.{IsRequestRead}
use Rattle.pp_law.specs.Hearing.{fronted, heard_by, what_counts}
use Rattle.pp_law.specs.Lists.{Bytes}
use Rattle.pp_law.specs.Replies.{is_finished}
use Rattle.pp_law.specs.Requests.{Front, NoHeadYet, NoHead, IsRequest, behind_head, front_in, front_of, has_request}
use Rattle.pp_law.specs.State.{State, Client}
use Rattle.pp_laws.specs.Numbers.{AreRising}
use Rattle.pp_laws.specs.Runs.{IsIn}
use Rattle.pp_laws.proofs.Sound.{client_number}
use Rattle.pp_laws.proofs.Tests.{below}
use Rattle.pp_laws_served.proofs.Heed.{Heeds, Still, facts_of as heeds_of}

-- who has no request has room; and who sends no more is closing where nothing that it sent is left to answer: that is looked at as
-- replies are over
pub record Facts (looks : Bool) (clients : List Client) : Type 0 where
  pub rise : AreRising (map client_number clients)
  pub short : (c : Client) → IsIn c clients → c.front ≡ NoHeadYet → length c.heard < 16384
  pub over : looks ≡ true → (c : Client) → IsIn c clients → is_finished c ≡ false

abbrev pub FactsOf : Bool → State → Type 0
FactsOf looks s = Facts looks s.clients

pub data Tended (looks : Bool) (s : State) : Type 0 where
  tended : FactsOf looks s → Tended looks s

pub facts_of : {looks : Bool} {s : State} → Tended looks s → FactsOf looks s
facts_of (tended facts) = facts

pub unlooked : {looks : Bool} {s : State} → Tended looks s → Tended false s
unlooked h = let f = facts_of h in tended (record { rise = f.rise; short = f.short; over = λ is. absurd (cc is) })

-- ---- tests

pub three : (a b d : Bool) → (a && not b && d) ≡ true → (a ≡ true) × (b ≡ false) × (d ≡ true)
three true true d is = absurd (cc is)
three true false d is = (refl, refl, is)
three false b d is = absurd (cc is)

all_three : (a b d : Bool) → a ≡ true → b ≡ false → d ≡ true → (a && not b && d) ≡ true
all_three true false d x y is = is
all_three true true d x y is = absurd (cc y)
all_three false b d x y is = absurd (cc x)

no_test : (t : Bool) → (t ≡ true → ⊥) → t ≡ false
no_test true none = absurd (none refl)
no_test false none = refl

either_back : (a b x : Bool) → (x ≡ true → b ≡ true) → (not a || x) ≡ true → (not a || b) ≡ true
either_back true b x back is = back is
either_back false b x back is = refl

shorter : (d c : Client) → Still d c → nat_lt (length d.heard) d.body_left ≡ true → nat_lt (length c.heard) c.body_left ≡ true
shorter d c s is = by (nat_lt (length c.heard) c.body_left) refl
  where
    by : (t : Bool) → nat_lt (length c.heard) c.body_left ≡ t → t ≡ true
    by true at = refl
    by false at =
        let le : c.body_left ≤ length c.heard = not_less (length c.heard) c.body_left at in
        let all : d.body_left ≤ length d.heard = s.left le in
        let lt : length d.heard < d.body_left = below (length d.heard) d.body_left is in
        absurd (none lt all)
      where
        not_less : (m n : ℕ) → nat_lt m n ≡ false → n ≤ m
        not_less m n at0 = grind (arith, nat_tests)

        none : {m n : ℕ} → m < n → n ≤ m → ⊥
        none lt le = omega arith

pub finished_still : (d c : Client) → Still d c → is_finished c ≡ false → is_finished d ≡ false
finished_still d c s off = no_test (is_finished d) (λ is. none (three d.has_hung_up d.is_closing (not (has_request d.front) || nat_lt (length d.heard) d.body_left) is))
  where
    going : d.is_closing ≡ false → c.is_closing ≡ false
    going opened = no_test c.is_closing (λ is. let both : true ≡ false = sym (s.closing is) ∙ opened in cc both)

    none : (d.has_hung_up ≡ true) × (d.is_closing ≡ false) × ((not (has_request d.front) || nat_lt (length d.heard) d.body_left) ≡ true) → ⊥
    none w =
        let left : (not (has_request c.front) || nat_lt (length c.heard) c.body_left) ≡ true = either_back (has_request c.front) (nat_lt (length c.heard) c.body_left) (nat_lt (length d.heard) d.body_left) (shorter d c s) (ap (λ (f : Front). not (has_request f) || nat_lt (length d.heard) d.body_left) (sym s.front) ∙ w.2) in
        let is : is_finished c ≡ true = all_three c.has_hung_up c.is_closing (not (has_request c.front) || nat_lt (length c.heard) c.body_left) (sym s.hung ∙ w.0) (going w.1) left in
        let both : true ≡ false = sym is ∙ off in cc both

pub closing_not : (c : Client) → c.is_closing ≡ true → is_finished c ≡ false
closing_not c closing = no_test (is_finished c) (λ is. let w = three c.has_hung_up c.is_closing (not (has_request c.front) || nat_lt (length c.heard) c.body_left) is in let both : true ≡ false = sym closing ∙ w.1 in cc both)

-- ---- where nobody was heard

pub tended_on : {looks : Bool} (o s : State) → Heeds o s → Tended looks o → Tended looks s
tended_on {looks} o s q h = tended (record {
  rise = subst AreRising (sym (heeds_of q).numbers) f.rise;
  short = λ d i none. let w = (heeds_of q).clients_from d i in less (w.is).heard (f.short w.was w.there (sym w.is.front ∙ none));
  over = λ is d i. let w = (heeds_of q).clients_from d i in finished_still d w.was w.is (f.over is w.was w.there);
})
  where
    f : FactsOf looks o
    f = facts_of h

    less : {m n : ℕ} → m ≤ n → n < 16384 → m < 16384
    less le lt = omega arith

-- ---- a request is read

-- no head stands at the front of fewer bytes than a head may have
no_head : (bytes : Bytes) → front_of bytes ≡ NoHeadYet → length bytes < 16384
unfolding front_of
no_head bytes none = by (request_at bytes) (request_holds bytes) none
  where
    by : (r : Read Request) → IsRequestRead bytes r → front_in r ≡ NoHeadYet → length bytes < 16384
    by (Whole head) holds is = absurd (cc is)
    by TooLong holds is = absurd (cc is)
    by Bad holds is = absurd (cc is)
    by More holds is = under (λ le. holds.0 (inl le))
      where
        under : (16384 ≤ length bytes → ⊥) → length bytes < 16384
        under off = either (split (length bytes))
          where
            split : (n : ℕ) → (16384 ≤ n) ⊎ (n < 16384)
            split n = cases (nat_lt n 16384) refl
              where
                cases : (t : Bool) → nat_lt n 16384 ≡ t → (16384 ≤ n) ⊎ (n < 16384)
                cases true at = inr (below n 16384 at)
                cases false at = inl (grind (arith, nat_tests))

            either : (16384 ≤ length bytes) ⊎ (length bytes < 16384) → length bytes < 16384
            either (inl le) = absurd (off le)
            either (inr lt) = lt

pub fronted_short : (c : Client) → (fronted c).front ≡ NoHeadYet → length (fronted c).heard < 16384
fronted_short c none = subst (λ (f : Front). length (what_counts f (behind_head f c.heard)) < 16384) (sym none) (no_head c.heard none)

pub heard_short : (bytes : Bytes) (c : Client) → (heard_by bytes c).front ≡ NoHeadYet → length (heard_by bytes c).heard < 16384
heard_short bytes c none = by c.front refl none
  where
    more : Client
    more = record c { heard = c.heard ++ what_counts c.front (drop c.skip bytes); skip = c.skip - length bytes }

    by : (f : Front) → c.front ≡ f → (elim f as (λ x. Client) [ NoHeadYet ↦ fronted more | NoHead status ↦ more | IsRequest r ↦ more ]).front ≡ NoHeadYet
        → length (elim f as (λ x. Client) [ NoHeadYet ↦ fronted more | NoHead status ↦ more | IsRequest r ↦ more ]).heard < 16384
    by NoHeadYet at is = fronted_short more is
    by (NoHead status) at is = let both : NoHead status ≡ NoHeadYet = sym at ∙ is in absurd (cc both)
    by (IsRequest r) at is = let both : IsRequest r ≡ NoHeadYet = sym at ∙ is in absurd (cc both)
