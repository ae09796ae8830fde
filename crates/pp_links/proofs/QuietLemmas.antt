-- Quiet steps, one after another and behind a wait.
use Rattle.std.proofs.Common.{◌≡◌, Bool, true, ◌&&◌, [], ◌∷◌, ◌++◌, Option, refl, sym, ◌∙◌, ap, append_assoc}
use Rattle.std.proofs.lemmas.List.{append-nil}
use Rattle.std.proofs.lemmas.List.Folds.{list_all-append}
use Rattle.pp_world.specs.Log.{Log, Appends, AppendsAll}
use Rattle.pp_world.specs.declared.happening.Happening.{Happening}
use Rattle.pp_links.specs.Quiet.{is_quiet, IsQuiet, GrowsQuietly, GrowsBy}

both_true : (a b : Bool) → a ≡ true → b ≡ true → (a && b) ≡ true
both_true a b one two = ap (λ (t : Bool). t && b) one ∙ two

quiet_both : (one two : Log) → IsQuiet one → IsQuiet two → IsQuiet (one ++ two)
quiet_both one two q r = list_all-append is_quiet one two ∙ both_true _ _ q r

-- nothing happened
pub quiet_none : (log : Option Log) → GrowsQuietly log log
quiet_none log = record { was = λ l is. (l, is, ([], sym (append-nil l), refl)) }

pub quiet_one : {old new : Option Log} (happening : Log → Happening) → Appends old new happening → ((l : Log) → is_quiet (happening l) ≡ true) → GrowsQuietly old new
quiet_one happening call quiet = record {
  was = λ l is. let w = call.was l is in (w.0, w.1, (happening w.0 ∷ [], w.2, ap (λ (b : Bool). b && true) (quiet w.0)));
}

pub quiet_then : {old mid new : Option Log} → GrowsQuietly old mid → GrowsQuietly mid new → GrowsQuietly old new
quiet_then one two = record {
  was = λ l is.
      let later = two.was l is in
      let earlier = one.was later.0 later.1 in (
        earlier.0,
        earlier.1,
        (earlier.2.0 ++ later.2.0, later.2.1 ∙ ap (λ (b : Log). b ++ later.2.0) earlier.2.1 ∙ append_assoc earlier.0 earlier.2.0 later.2.0, quiet_both earlier.2.0 later.2.0 earlier.2.2 later.2.2),
      );
}

-- exactly these, which are quiet behind the first
pub grows_exactly : {old new : Option Log} (first rest : Log) → AppendsAll old new (λ l. first ++ rest) → IsQuiet rest → GrowsBy first IsQuiet old new
grows_exactly first rest call quiet = record {
  was = λ l is. let w = call.was l is in (w.0, w.1, (rest, w.2, quiet));
}

-- a quiet step behind a wait
pub grows_then : {old mid new : Option Log} (first : Log) → GrowsBy first IsQuiet old mid → GrowsQuietly mid new → GrowsBy first IsQuiet old new
grows_then first one two = record {
  was = λ l is.
      let later = two.was l is in
      let earlier = one.was later.0 later.1 in (
        earlier.0,
        earlier.1,
        (
          earlier.2.0 ++ later.2.0,
          later.2.1 ∙ ap (λ (b : Log). b ++ later.2.0) earlier.2.1 ∙ append_assoc earlier.0 (first ++ earlier.2.0) later.2.0 ∙ ap (λ (b : Log). earlier.0 ++ b) (append_assoc first earlier.2.0 later.2.0),
          quiet_both earlier.2.0 later.2.0 earlier.2.2 later.2.2,
        ),
      );
}

-- a quiet step behind a call
pub grows_quietly : {old mid new : Option Log} (first : Log) → AppendsAll old mid (λ l. first) → GrowsQuietly mid new → GrowsBy first IsQuiet old new
grows_quietly first call rest = record {
  was = λ l is.
      let later = rest.was l is in
      let earlier = call.was later.0 later.1 in
      (earlier.0, earlier.1, (later.2.0, later.2.1 ∙ ap (λ (b : Log). b ++ later.2.0) earlier.2 ∙ append_assoc earlier.0 first later.2.0, later.2.2));
}
