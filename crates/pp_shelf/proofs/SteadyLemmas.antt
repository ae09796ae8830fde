-- Steady steps, one after another and behind a wait; and that what is done on the disk opens and closes no connection.
use Rattle.std.proofs.Common.{◌≡◌, ◌≤◌, ℕ, Bool, true, false, ◌&&◌, ◌||◌, List, [], ◌∷◌, ◌++◌, Option, refl, sym, ◌∙◌, ap, subst, append_assoc}
use Rattle.std.specs.List.{All, list_all}
use Rattle.std.proofs.lemmas.List.{append-nil}
use Rattle.std.proofs.lemmas.List.Folds.{list_all-append}
use Rattle.std.specs.Prelude.{fold}
use Rattle.pp_world.specs.Connections.{side_after, side_of}
use Rattle.pp_world.specs.declared.event.Side.{Side}
use Rattle.pp_world.specs.declared.happening.Happening.{Happening}
use Rattle.pp_world.specs.declared.happening.Happening.TheVariants.{Began, Did, Unread}
use Rattle.pp_world.specs.Log.{Log, AppendsAll}
use Rattle.pp_world.proofs.LogLemmas.{side_of-append}
use Rattle.pp_links.specs.Links.{AreOpen, IsLinked, Link}
use Rattle.pp_links.specs.Quiet.{GrowsBy, GrowsQuietly, is_quiet}
use Rattle.pp_shelf.specs.Steady.{GrowsOnDisk, GrowsSteadily, IsSteady, is_on_disk, is_steady}

both_true : (a b : Bool) → a ≡ true → b ≡ true → (a && b) ≡ true
both_true a b one two = ap (λ (t : Bool). t && b) one ∙ two

first_true : (a b : Bool) → (a && b) ≡ true → a ≡ true
first_true true b is = refl
first_true false b is = is

second_true : (a b : Bool) → (a && b) ≡ true → b ≡ true
second_true true b is = is
second_true false b is = absurd (let bad : false ≡ true = is in cc)

-- a test that follows from another holds of a whole log where that does
all_weaker : (one two : Happening → Bool) → ((h : Happening) → one h ≡ true → two h ≡ true) → (log : Log) → list_all one log ≡ true → list_all two log ≡ true
all_weaker one two step [] all = refl
all_weaker one two step (h ∷ log) all =
    both_true (two h) (list_all two log) (step h (first_true (one h) (list_all one log) all)) (all_weaker one two step log (second_true (one h) (list_all one log) all))

either_true : (a b : Bool) → a ≡ true → (a || b) ≡ true
either_true a b is = ap (λ (t : Bool). t || b) is

or_true : (a b : Bool) → b ≡ true → (a || b) ≡ true
or_true true b is = refl
or_true false b is = is

steady_both : (one two : Log) → IsSteady one → IsSteady two → IsSteady (one ++ two)
steady_both one two q r = list_all-append is_steady one two ∙ both_true _ _ q r

-- nothing happened
pub steady_none : (log : Option Log) → GrowsSteadily log log
steady_none log = record { was = λ l is. (l, is, ([], sym (append-nil l), refl)) }

pub on_disk_none : (log : Option Log) → GrowsOnDisk log log
on_disk_none log = record { was = λ l is. (l, is, ([], sym (append-nil l), refl)) }

pub steady_then : {old mid new : Option Log} → GrowsSteadily old mid → GrowsSteadily mid new → GrowsSteadily old new
steady_then one two = record {
  was = λ l is.
      let later = two.was l is in
      let earlier = one.was later.0 later.1 in (
        earlier.0,
        earlier.1,
        (earlier.2.0 ++ later.2.0, later.2.1 ∙ ap (λ (b : Log). b ++ later.2.0) earlier.2.1 ∙ append_assoc earlier.0 earlier.2.0 later.2.0, steady_both earlier.2.0 later.2.0 earlier.2.2 later.2.2),
      );
}

pub quiet_is_steady : {old new : Option Log} → GrowsQuietly old new → GrowsSteadily old new
quiet_is_steady grows = record {
  was = λ l is.
      let w = grows.was l is in
      (w.0, w.1, (w.2.0, w.2.1, all_weaker is_quiet is_steady (λ h q. either_true (is_quiet h) (is_on_disk h) q) w.2.0 w.2.2));
}

pub disk_is_steady : {old new : Option Log} → GrowsOnDisk old new → GrowsSteadily old new
disk_is_steady grows = record {
  was = λ l is.
      let w = grows.was l is in
      (w.0, w.1, (w.2.0, w.2.1, all_weaker is_on_disk is_steady (λ h q. or_true (is_quiet h) (is_on_disk h) q) w.2.0 w.2.2));
}

pub quiet_then_steady : {old mid new : Option Log} → GrowsQuietly old mid → GrowsSteadily mid new → GrowsSteadily old new
quiet_then_steady one two = steady_then (quiet_is_steady one) two

pub steady_then_quiet : {old mid new : Option Log} → GrowsSteadily old mid → GrowsQuietly mid new → GrowsSteadily old new
steady_then_quiet one two = steady_then one (quiet_is_steady two)

-- steady steps behind a call
pub grows_steadily : {old mid new : Option Log} (first : Log) → AppendsAll old mid (λ l. first) → GrowsSteadily mid new → GrowsBy first IsSteady old new
grows_steadily first call rest = record {
  was = λ l is.
      let later = rest.was l is in
      let earlier = call.was later.0 later.1 in
      (earlier.0, earlier.1, (later.2.0, later.2.1 ∙ ap (λ (b : Log). b ++ later.2.0) earlier.2 ∙ append_assoc earlier.0 first later.2.0, later.2.2));
}

pub grows_exactly_steady : {old new : Option Log} (first rest : Log) → AppendsAll old new (λ l. first ++ rest) → IsSteady rest → GrowsBy first IsSteady old new
grows_exactly_steady first rest call steady = record {
  was = λ l is. let w = call.was l is in (w.0, w.1, (rest, w.2, steady));
}

-- ---- no connection is opened or closed on the disk

still : (id : ℕ) (side : Option Side) (h : Happening) → is_on_disk h ≡ true → side_after id side h ≡ side
still id side (Began op) is = refl
still id side (Did op ok) is = refl
still id side (Unread name) is = refl
still id side h is = absurd (let bad : false ≡ true = is in cc)

stays : (id : ℕ) (added : Log) (side : Option Side) → list_all is_on_disk added ≡ true → fold (side_after id) side added ≡ side
stays id [] side all = refl
stays id (h ∷ added) side all =
    ap (λ (s : Option Side). fold (side_after id) s added) (still id side h (first_true (is_on_disk h) (list_all is_on_disk added) all))
    ∙ stays id added side (second_true (is_on_disk h) (list_all is_on_disk added) all)

pub linked_on_disk : {old new : Option Log} (top now : ℕ) (links : List Link) → IsLinked old top links → GrowsOnDisk old new → now ≡ top → IsLinked new now links
linked_on_disk {old} {new} top now links held grows same = record {
  given = subst (λ (t : ℕ). All (λ link. link.0 ≤ t) links) (sym same) held.given;
  apart = held.apart;
  opened = record {
    at = λ l is.
        let w = grows.was l is in
        subst (AreOpen links) (sym w.2.1) (λ k d within.
        side_of-append _ w.0 w.2.0 ∙ stays _ w.2.0 (side_of _ w.0) w.2.2 ∙ (held.opened.at w.0 w.1) k d within);
  };
}
