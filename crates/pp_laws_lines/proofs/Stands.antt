-- How a line stands to what was asked on its connection: some of it asked whole, then one that is being asked, and nothing of the rest.
use Rattle.std.proofs.Common.{◌≡◌, ◌⊎◌, refl, ℕ, ◌+◌, ◌<◌, Bool, true, false, not, ◌==◌, List, [], ◌∷◌, ◌++◌, filter, cond, length, Option, inl, inr, sym, subst, ap, ◌∙◌, append_assoc, length-append, arith}
use Rattle.std.proofs.lemmas.List.{append-nil}
use Rattle.pp_law.specs.Lists.{Bytes}
use Rattle.pp_law.specs.State.{Term, Exchange}
use Rattle.pp_world.specs.Log.{Log}
use Rattle.pp_world.specs.declared.happening.Happening.{Happening}
use Rattle.pp_laws.specs.Runs.{IsIn}
use Rattle.pp_laws.proofs.Lists.{in_filter, in_push}
use Rattle.pp_laws.proofs.Tests.{same_number}
use Rattle.pp_laws_asks.specs.Orders.{IsAskedWhole}
use Rattle.pp_laws_lines.specs.Lines.{Ask, AreWhole, IsFront, IsOneStream, IsWhole, WasToAsk, joined, nothing, of_body, of_text}

-- of these lives and this log, and of a number that was given; whose response comes on each connection that is answered; a connection
-- whose line is not looked at, one whose answer is not, and an exchange of which nothing is asked
pub record Since : Type 0 where
  pub terms : List Term
  pub log : Log
  pub low : ℕ
  pub firsts : ℕ → Option ℕ
  pub gone : Option ℕ
  pub but : Option ℕ
  pub kept : Option Exchange

-- as much of it was asked, of the same
pub record SameAsk (e d : Exchange) : Type 0 where
  pub number : e.number ≡ d.number
  pub place : e.place ≡ d.place
  pub text : e.text ≡ d.text
  pub asked : e.asked ≡ d.asked
  pub left : e.body_left ≡ d.body_left
  pub key : e.key ≡ d.key
  pub head : e.head ≡ d.head
  pub aim : e.aim ≡ d.aim

pub ask_same : (e : Exchange) → SameAsk e e
ask_same e = record { number = refl; place = refl; text = refl; asked = refl; left = refl; key = refl; head = refl; aim = refl }

-- nothing of these was asked
abbrev pub AllFresh : List Exchange → List ℕ → Type 0
AllFresh xs line = (m : ℕ) (e : Exchange) → IsIn m line → IsIn e xs → e.number ≡ m → e.asked ≡ 0

-- all of it was
abbrev pub WholeIn : List Exchange → ℕ → Type 0
WholeIn xs m = (e : Exchange) → IsIn e xs → e.number ≡ m → IsAskedWhole e

-- so far, of one that is being asked
pub data SoFar (was now : Exchange) (last : Bytes) : Type 0 where
  in_text : (rest : Bytes) → was.text ≡ last ++ rest → now.text ≡ was.text → now.asked ≡ length last → now.body_left ≡ was.body_left → SoFar was now last
  in_body : (body : Bytes) → last ≡ was.text ++ body → now.text ≡ was.text → now.asked ≡ length was.text → length body + now.body_left ≡ was.body_left → SoFar was now last

pub record Amid (terms : List Term) (log : Log) (number : ℕ) (xs : List Exchange) (m : ℕ) (last : Bytes) : Type 0 where
  pub now : Exchange
  pub there : IsIn now xs
  pub numbered : now.number ≡ m
  pub begun : 0 < now.asked
  pub was : Exchange
  pub stood : WasToAsk terms log number was
  pub so_far : SoFar was now last

-- nothing more was asked; or of the first of these; or that one was asked whole
abbrev pub Stands : List Term → Log → ℕ → List Exchange → Bytes → List ℕ → Type 0
Stands terms log number xs last [] = last ≡ []
Stands terms log number xs last (m ∷ rest) = ((last ≡ []) × AllFresh xs (m ∷ rest)) ⊎ ((Amid terms log number xs m last × AllFresh xs rest) ⊎ (WholeIn xs m × Stands terms log number xs last rest))

-- what was asked there: whole asks, and then of the line
pub record Tells (terms : List Term) (log : Log) (number : ℕ) (total : Bytes) (xs : List Exchange) (line : List ℕ) : Type 0 where
  pub asks : List Ask
  pub are_whole : AreWhole terms log number asks
  pub last : Bytes
  pub all : total ≡ joined asks ++ last
  pub stands : Stands terms log number xs last line

-- ---- words

pub positive_not : {n : ℕ} → 0 < n → n ≡ 0 → ⊥
positive_not lt is = omega arith

pub in_back : (n : ℕ) (ns ms : List ℕ) → IsIn n ms → IsIn n (ns ++ ms)
in_back n [] ms i = i
in_back n (m ∷ ns) ms i = inr (in_back n ns ms i)

-- ---- exchanges of which the same was asked

-- those of the line come from there, and those that were begun are still there
pub record Follows (xs ys : List Exchange) (line : List ℕ) : Type 0 where
  pub back : (e : Exchange) → IsIn e ys → IsIn e.number line → (d : Exchange) × IsIn d xs × SameAsk e d
  pub forth : (d : Exchange) → IsIn d xs → IsIn d.number line → 0 < d.asked → (e : Exchange) × IsIn e ys × SameAsk e d

pub follows_less : (xs ys : List Exchange) (m : ℕ) (line : List ℕ) → Follows xs ys (m ∷ line) → Follows xs ys line
follows_less xs ys m line f = record { back = λ e i l. f.back e i (inr l); forth = λ d i l lt. f.forth d i (inr l) lt }

pub fresh_by : (xs ys : List Exchange) (line : List ℕ) → Follows xs ys line → AllFresh xs line → AllFresh ys line
fresh_by xs ys line f all m e l i is = let w = f.back e i (subst (λ n. IsIn n line) (sym is) l) in w.2.asked ∙ all m w.0 l w.1 (sym w.2.number ∙ is)

so_far_by : (was now then : Exchange) (last : Bytes) → SameAsk then now → SoFar was now last → SoFar was then last
so_far_by was now then last s (in_text rest spelled text asked_ left) = in_text rest spelled (s.text ∙ text) (s.asked ∙ asked_) (s.left ∙ left)
so_far_by was now then last s (in_body body spelled text asked_ left) = in_body body spelled (s.text ∙ text) (s.asked ∙ asked_) (ap (λ n. length body + n) s.left ∙ left)

amid_by : (terms : List Term) (log : Log) (number : ℕ) (xs ys : List Exchange) (m : ℕ) (line : List ℕ) (last : Bytes) → IsIn m line → Follows xs ys line → Amid terms log number xs m last → Amid terms log number ys m last
amid_by terms log number xs ys m line last l f a =
    let w = f.forth a.now a.there (subst (λ n. IsIn n line) (sym a.numbered) l) a.begun in
    record {
      now = w.0;
      there = w.1;
      numbered = w.2.number ∙ a.numbered;
      begun = subst (λ n. 0 < n) (sym w.2.asked) a.begun;
      was = a.was;
      stood = a.stood;
      so_far = so_far_by a.was a.now w.0 last w.2 a.so_far;
    }

whole_by : (xs ys : List Exchange) (m : ℕ) (line : List ℕ) → IsIn m line → Follows xs ys line → WholeIn xs m → WholeIn ys m
whole_by xs ys m line l f all e i is =
    let w = f.back e i (subst (λ n. IsIn n line) (sym is) l) in
    let d = all w.0 w.1 (sym w.2.number ∙ is) in
    (w.2.asked ∙ d.0 ∙ ap (λ (t : Bytes). length t) (sym w.2.text), w.2.left ∙ d.1)

pub stands_by : (terms : List Term) (log : Log) (number : ℕ) (xs ys : List Exchange) (last : Bytes) (line : List ℕ) → Follows xs ys line → Stands terms log number xs last line → Stands terms log number ys last line
stands_by terms log number xs ys last [] f none = none
stands_by terms log number xs ys last (m ∷ rest) f (inl w) = inl (w.0, fresh_by xs ys (m ∷ rest) f w.1)
stands_by terms log number xs ys last (m ∷ rest) f (inr (inl w)) = inr (inl (amid_by terms log number xs ys m (m ∷ rest) last (inl refl) f w.0, fresh_by xs ys rest (follows_less xs ys m rest f) w.1))
stands_by terms log number xs ys last (m ∷ rest) f (inr (inr w)) = inr (inr (whole_by xs ys m (m ∷ rest) (inl refl) f w.0, stands_by terms log number xs ys last rest (follows_less xs ys m rest f) w.1))

-- ---- one comes behind the line

fresh_push : (xs : List Exchange) (line : List ℕ) (n : ℕ) → ((e : Exchange) → IsIn e xs → e.number ≡ n → e.asked ≡ 0) → AllFresh xs line → AllFresh xs (line ++ n ∷ [])
fresh_push xs line n none all m e l i at = by (in_push m line n l)
  where
    by : IsIn m line ⊎ (m ≡ n) → e.asked ≡ 0
    by (inl j) = all m e j i at
    by (inr eq) = none e i (at ∙ eq)

pub stands_push : (terms : List Term) (log : Log) (number : ℕ) (xs : List Exchange) (last : Bytes) (line : List ℕ) (n : ℕ) → ((e : Exchange) → IsIn e xs → e.number ≡ n → e.asked ≡ 0) → Stands terms log number xs last line → Stands terms log number xs last (line ++ n ∷ [])
stands_push terms log number xs last [] n none is = inl (is, fresh_push xs [] n none (λ m e l i at. absurd l))
stands_push terms log number xs last (m ∷ rest) n none (inl w) = inl (w.0, fresh_push xs (m ∷ rest) n none w.1)
stands_push terms log number xs last (m ∷ rest) n none (inr (inl w)) = inr (inl (w.0, fresh_push xs rest n none w.1))
stands_push terms log number xs last (m ∷ rest) n none (inr (inr w)) = inr (inr (w.0, stands_push terms log number xs last rest n none w.1))

-- ---- one leaves the line

abbrev pub others : ℕ → List ℕ → List ℕ
others n line = filter (λ m. not (m == n)) line

others_in : (n m : ℕ) (line : List ℕ) → IsIn m (others n line) → IsIn m line
others_in n m line i = (in_filter (λ k. not (k == n)) m line i).0

-- nothing of it was asked, or all
pub data MayGo (xs : List Exchange) (n : ℕ) : Type 0 where
  unasked : ((e : Exchange) → IsIn e xs → e.number ≡ n → e.asked ≡ 0) → MayGo xs n
  asked_whole : WholeIn xs n → MayGo xs n

fresh_fewer : (xs : List Exchange) (line : List ℕ) (n : ℕ) → AllFresh xs line → AllFresh xs (others n line)
fresh_fewer xs line n all m e l i at = all m e (others_in n m line l) i at

pub fresh_stands : (terms : List Term) (log : Log) (number : ℕ) (xs : List Exchange) (last : Bytes) (line : List ℕ) → last ≡ [] → AllFresh xs line → Stands terms log number xs last line
fresh_stands terms log number xs last [] none all = none
fresh_stands terms log number xs last (m ∷ rest) none all = inl (none, all)

whole_stands : (terms : List Term) (log : Log) (number : ℕ) (xs : List Exchange) (last : Bytes) (n m : ℕ) (rest : List ℕ) (t : Bool) → WholeIn xs m → Stands terms log number xs last (others n rest)
    → Stands terms log number xs last (cond (not t) (m ∷ others n rest) (others n rest))
whole_stands terms log number xs last n m rest true one more = more
whole_stands terms log number xs last n m rest false one more = inr (inr (one, more))

-- one that was asked whole is done with
ask_of : (terms : List Term) (log : Log) (number : ℕ) (was now : Exchange) (last : Bytes) → WasToAsk terms log number was → IsAskedWhole now → SoFar was now last → (a : Ask) × IsWhole terms log number a × (last ≡ a.exchange.text ++ a.body)
ask_of terms log number was now last stood full (in_text rest spelled text asked_ left) = (record { exchange = was; body = [] }, record { stood = stood; whole = sym (sym left ∙ full.1) }, sym (ap (λ (bs : Bytes). bs ++ []) (spelled ∙ ap (λ (bs : Bytes). last ++ bs) none ∙ append-nil last) ∙ append-nil last))
  where
    same_length : length last ≡ length was.text
    same_length = sym asked_ ∙ full.0 ∙ ap (λ (t : Bytes). length t) text

    longer : length was.text ≡ length last + length rest
    longer = ap (λ (t : Bytes). length t) spelled ∙ length-append last rest

    none_of : (ns : Bytes) → length ns ≡ 0 → ns ≡ []
    none_of [] is = refl
    none_of (n ∷ ns) is = absurd (omega arith)

    none : rest ≡ []
    none = none_of rest (omega (arith, same_length, longer))
ask_of terms log number was now last stood full (in_body body spelled text asked_ left) = (record { exchange = was; body = body }, record { stood = stood; whole = by }, spelled)
  where
    by : length body ≡ was.body_left
    by = let none : now.body_left ≡ 0 = full.1 in let sum : length body + now.body_left ≡ was.body_left = left in omega arith

-- whole asks that are done with, and what is left of what was asked
pub record Settled (terms : List Term) (log : Log) (number : ℕ) (last : Bytes) : Type 0 where
  pub asks : List Ask
  pub are_whole : AreWhole terms log number asks
  pub left : Bytes
  pub all : last ≡ joined asks ++ left

none_settled : (terms : List Term) (log : Log) (number : ℕ) (last : Bytes) → Settled terms log number last
none_settled terms log number last = record { asks = []; are_whole = tt; left = last; all = refl }

one_settled : (terms : List Term) (log : Log) (number : ℕ) (last : Bytes) → (a : Ask) × IsWhole terms log number a × (last ≡ a.exchange.text ++ a.body) → Settled terms log number last
one_settled terms log number last w = record { asks = w.0 ∷ []; are_whole = (w.1, tt); left = []; all = w.2 ∙ sym (append-nil (w.0.exchange.text ++ w.0.body)) ∙ sym (append-nil ((w.0.exchange.text ++ w.0.body) ++ [])) }

-- one that was asked whole leaves it
settled_fewer : (terms : List Term) (log : Log) (number : ℕ) (xs : List Exchange) (last : Bytes) (line : List ℕ) (n : ℕ) → (IsIn n line → MayGo xs n) → Stands terms log number xs last line
    → (w : Settled terms log number last) × Stands terms log number xs w.left (others n line)
unfolding none_settled one_settled
settled_fewer terms log number xs last [] n may none = (none_settled terms log number last, none)
settled_fewer terms log number xs last (m ∷ rest) n may (inl w) = (none_settled terms log number last, fresh_stands terms log number xs last (others n (m ∷ rest)) w.0 (fresh_fewer xs (m ∷ rest) n w.1))
settled_fewer terms log number xs last (m ∷ rest) n may (inr (inl w)) = by (m == n) refl
  where
    goes : m ≡ n → MayGo xs n → (v : Settled terms log number last) × Stands terms log number xs v.left (others n rest)
    goes eq (unasked none) = absurd (positive_not w.0.begun (none w.0.now w.0.there (w.0.numbered ∙ eq)))
    goes eq (asked_whole full) = (
      one_settled terms log number last (ask_of terms log number w.0.was w.0.now last w.0.stood (full w.0.now w.0.there (w.0.numbered ∙ eq)) w.0.so_far),
      fresh_stands terms log number xs [] (others n rest) refl (fresh_fewer xs rest n w.1),
    )

    by : (t : Bool) → (m == n) ≡ t → (v : Settled terms log number last) × Stands terms log number xs v.left (cond (not t) (m ∷ others n rest) (others n rest))
    by true eq = goes (same_number m n eq) (may (inl (sym (same_number m n eq))))
    by false eq = (none_settled terms log number last, inr (inl (w.0, fresh_fewer xs rest n w.1)))
settled_fewer terms log number xs last (m ∷ rest) n may (inr (inr w)) =
    let r = settled_fewer terms log number xs last rest n (λ l. may (inr l)) w.1 in (r.0, whole_stands terms log number xs r.0.left n m rest (m == n) w.0 r.1)

pub joined-append : (asks more : List Ask) → joined (asks ++ more) ≡ joined asks ++ joined more
joined-append [] more = refl
joined-append (x ∷ asks) more = ap (λ (bs : Bytes). (x.exchange.text ++ x.body) ++ bs) (joined-append asks more) ∙ sym (append_assoc (x.exchange.text ++ x.body) (joined asks) (joined more))

pub whole_append : (terms : List Term) (log : Log) (number : ℕ) (asks more : List Ask) → AreWhole terms log number asks → AreWhole terms log number more → AreWhole terms log number (asks ++ more)
whole_append terms log number [] more all them = them
whole_append terms log number (x ∷ asks) more all them = (all.0, whole_append terms log number asks more all.1 them)

pub settled_all : (terms : List Term) (log : Log) (number : ℕ) (total : Bytes) (asks : List Ask) (last : Bytes) (w : Settled terms log number last) → total ≡ joined asks ++ last → total ≡ joined (asks ++ w.asks) ++ w.left
settled_all terms log number total asks last w is = is ∙ ap (λ (bs : Bytes). joined asks ++ bs) w.all ∙ sym (append_assoc (joined asks) (joined w.asks) w.left) ∙ ap (λ (bs : Bytes). bs ++ w.left) (sym (joined-append asks w.asks))

pub tells_fewer : (terms : List Term) (log : Log) (number : ℕ) (total : Bytes) (xs : List Exchange) (line : List ℕ) (n : ℕ) → (IsIn n line → MayGo xs n) → Tells terms log number total xs line → Tells terms log number total xs (others n line)
tells_fewer terms log number total xs line n may t =
    let w = settled_fewer terms log number xs t.last line n may t.stands in
    record {
      asks = t.asks ++ w.0.asks;
      are_whole = whole_append terms log number t.asks w.0.asks t.are_whole w.0.are_whole;
      last = w.0.left;
      all = settled_all terms log number total t.asks t.last w.0 t.all;
      stands = w.1;
    }

pub tells_by : (terms : List Term) (log : Log) (number : ℕ) (total : Bytes) (xs ys : List Exchange) (line : List ℕ) → Follows xs ys line → Tells terms log number total xs line → Tells terms log number total ys line
tells_by terms log number total xs ys line f t = record { asks = t.asks; are_whole = t.are_whole; last = t.last; all = t.all; stands = stands_by terms log number xs ys t.last line f t.stands }

-- ---- the log grows

pub next_still : (terms : List Term) (log : Log) (h : Happening) (number : ℕ) (e : Exchange) → WasToAsk terms log number e → WasToAsk terms (log ++ h ∷ []) number e
next_still terms log h number e w = record { front = w.front; behind = w.behind ++ h ∷ []; parts = sym (append_assoc w.front w.behind (h ∷ [])) ∙ ap (λ (l : Log). l ++ h ∷ []) w.parts; then = w.then }

pub whole_still : (terms : List Term) (log : Log) (h : Happening) (number : ℕ) (asks : List Ask) → AreWhole terms log number asks → AreWhole terms (log ++ h ∷ []) number asks
whole_still terms log h number [] all = all
whole_still terms log h number (a ∷ asks) all = (record { stood = next_still terms log h number a.exchange all.0.stood; whole = all.0.whole }, whole_still terms log h number asks all.1)

stands_still : (terms : List Term) (log : Log) (h : Happening) (number : ℕ) (xs : List Exchange) (last : Bytes) (line : List ℕ) → Stands terms log number xs last line → Stands terms (log ++ h ∷ []) number xs last line
stands_still terms log h number xs last [] none = none
stands_still terms log h number xs last (m ∷ rest) (inl w) = inl w
stands_still terms log h number xs last (m ∷ rest) (inr (inl w)) =
    inr (inl (record { now = w.0.now; there = w.0.there; numbered = w.0.numbered; begun = w.0.begun; was = w.0.was; stood = next_still terms log h number w.0.was w.0.stood; so_far = w.0.so_far }, w.1))
stands_still terms log h number xs last (m ∷ rest) (inr (inr w)) = inr (inr (w.0, stands_still terms log h number xs last rest w.1))

pub settled_still : (terms : List Term) (log : Log) (h : Happening) (number : ℕ) (last : Bytes) → Settled terms log number last → Settled terms (log ++ h ∷ []) number last
settled_still terms log h number last w = record { asks = w.asks; are_whole = whole_still terms log h number w.asks w.are_whole; left = w.left; all = w.all }

pub tells_still : (terms : List Term) (log : Log) (h : Happening) (number : ℕ) (total : Bytes) (xs : List Exchange) (line : List ℕ) → Tells terms log number total xs line → Tells terms (log ++ h ∷ []) number total xs line
tells_still terms log h number total xs line t =
    record { asks = t.asks; are_whole = whole_still terms log h number t.asks t.are_whole; last = t.last; all = t.all; stands = stands_still terms log h number xs t.last line t.stands }

-- ---- the one that is asked next

-- nothing of it was asked so far, or it is in the midst
pub data IsNextOf (terms : List Term) (log : Log) (number : ℕ) (xs : List Exchange) (e : Exchange) (left : Bytes) : Type 0 where
  at_its_front : left ≡ [] → e.asked ≡ 0 → IsNextOf terms log number xs e left
  in_its_midst : (was : Exchange) → WasToAsk terms log number was → SoFar was e left → 0 < e.asked → IsNextOf terms log number xs e left

pub record Located (terms : List Term) (log : Log) (number : ℕ) (xs : List Exchange) (e : Exchange) (last : Bytes) (behind : List ℕ) : Type 0 where
  pub settled : Settled terms log number last
  pub next : IsNextOf terms log number xs e settled.left
  pub fresh_behind : AllFresh xs behind

-- behind those that were asked whole
pub located : (terms : List Term) (log : Log) (number : ℕ) (xs : List Exchange) (e : Exchange) (last : Bytes) (before behind : List ℕ) → IsIn e xs → ((d : Exchange) → IsIn d xs → d.number ≡ e.number → d ≡ e) → (IsAskedWhole e → ⊥)
    → ((m : ℕ) → IsIn m before → WholeIn xs m) → Stands terms log number xs last (before ++ e.number ∷ behind) → Located terms log number xs e last behind
unfolding none_settled one_settled
located terms log number xs e last [] behind there only isnt full (inl w) = record {
  settled = none_settled terms log number last;
  next = at_its_front w.0 (w.1 e.number e (inl refl) there refl);
  fresh_behind = λ m d l i at. w.1 m d (inr l) i at;
}
located terms log number xs e last [] behind there only isnt full (inr (inl w)) =
    let it : w.0.now ≡ e = only w.0.now w.0.there w.0.numbered in
    record {
      settled = none_settled terms log number last;
      next = in_its_midst w.0.was w.0.stood (subst (λ (x : Exchange). SoFar w.0.was x last) it w.0.so_far) (subst (λ (x : Exchange). 0 < x.asked) it w.0.begun);
      fresh_behind = w.1;
    }
located terms log number xs e last [] behind there only isnt full (inr (inr w)) = absurd (isnt (w.0 e there refl))
located terms log number xs e last (b ∷ before) behind there only isnt full (inl w) = record {
  settled = none_settled terms log number last;
  next = at_its_front w.0 (w.1 e.number e (inr (in_back e.number before (e.number ∷ behind) (inl refl))) there refl);
  fresh_behind = λ m d l i at. w.1 m d (inr (in_back m before (e.number ∷ behind) (inr l))) i at;
}
located terms log number xs e last (b ∷ before) behind there only isnt full (inr (inl w)) = record {
  settled = one_settled terms log number last (ask_of terms log number w.0.was w.0.now last w.0.stood (full b (inl refl) w.0.now w.0.there w.0.numbered) w.0.so_far);
  next = at_its_front refl (w.1 e.number e (in_back e.number before (e.number ∷ behind) (inl refl)) there refl);
  fresh_behind = λ k d l i at. w.1 k d (in_back k before (e.number ∷ behind) (inr l)) i at;
}
located terms log number xs e last (b ∷ before) behind there only isnt full (inr (inr w)) = located terms log number xs e last before behind there only isnt (λ k l. full k (inr l)) w.1

pub stands_before : (terms : List Term) (log : Log) (number : ℕ) (xs : List Exchange) (last : Bytes) (before line : List ℕ) → ((m : ℕ) → IsIn m before → WholeIn xs m) → Stands terms log number xs last line → Stands terms log number xs last (before ++ line)
stands_before terms log number xs last [] line full more = more
stands_before terms log number xs last (b ∷ before) line full more = inr (inr (full b (inl refl), stands_before terms log number xs last before line (λ m l. full m (inr l)) more))

-- ---- the law's words

front_by : (terms : List Term) (log : Log) (number : ℕ) (xs : List Exchange) (last : Bytes) (line : List ℕ) → Stands terms log number xs last line → IsFront terms log number last
front_by terms log number xs last [] none = nothing none
front_by terms log number xs last (m ∷ rest) (inl w) = nothing w.0
front_by terms log number xs last (m ∷ rest) (inr (inl w)) = by w.0.so_far
  where
    by : SoFar w.0.was w.0.now last → IsFront terms log number last
    by (in_text left_over spelled text asked_ left) = of_text w.0.was left_over w.0.stood spelled
    by (in_body body spelled text asked_ left) = of_body w.0.was body w.0.stood spelled (let sum : length body + w.0.now.body_left ≡ w.0.was.body_left = left in omega arith)
front_by terms log number xs last (m ∷ rest) (inr (inr w)) = front_by terms log number xs last rest w.1

pub one_by : (terms : List Term) (log : Log) (number : ℕ) (total : Bytes) (xs : List Exchange) (line : List ℕ) → Tells terms log number total xs line → IsOneStream terms log number total
one_by terms log number total xs line t = record { asks = t.asks; whole = t.are_whole; last = t.last; front = front_by terms log number xs t.last line t.stands; all = t.all }
