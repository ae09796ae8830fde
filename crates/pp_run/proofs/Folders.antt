-- What a run comes to, from its folder on.
use Rattle.std.proofs.Common.{◌≤◌, ◌∙◌, ap, refl, sym, subst, ℕ, Bool, List, [], ◌∷◌, ◌++◌, Option, Some, true, false, append_assoc, inl, inr}
use Rattle.std.proofs.lemmas.List.Sums.{fold-append}
use Rattle.pp_world.specs.declared.happening.Happening.TheVariants.{Configured, Listed, Listens, Printed, Rooted}
use Rattle.pp_world.specs.Disk.{image_after, image_of}
use Rattle.pp_world.specs.Files.{Files}
use Rattle.pp_world.specs.Log.{Log, Appends, AppendsAll, Rises, Told}
use Rattle.pp_world.proofs.CallLemmas.{rises_earlier, rises_later}
use Rattle.pp_gate.proofs.Views.{view_of-append}
use Rattle.pp_links.specs.Quiet.{GrowsBy}
use Rattle.pp_shelf.specs.Steady.{IsOnDisk}
use Rattle.pp_desk.specs.Anything.{anything}
use Rattle.pp_recover.specs.Opening.{IsFresh}
use Rattle.pp_shelf.specs.Opening.{MayBeListed}
use Rattle.pp_store.specs.Held.{Holds}
use Rattle.pp_store.specs.Kept.{KeptMap}
use Rattle.pp_store.proofs.Backing.{outlast-others}
use Rattle.pp_run.specs.Lines.{no_disk_line, no_listener_line, no_memory_line}
use Rattle.pp_run.specs.Exits.{HasNoDisk, ListensAndGoes, ListensAs, MayNot, OpensAnd, OpensOn, WantsMemory, served_as}
use Rattle.pp_run.specs.Serving.{GoesUpTo}
use Rattle.pp_run.specs.declared.ending.Exit.{Exit}
use Rattle.pp_run.specs.declared.ending.Exit.TheVariants.{Served, ServedAstray, Usage, NoMemory, NoDisk, NoListener, NoConfig}

-- a life that read its configuration has changed nothing
fresh_configured : (files : Files) (k : Log) (name : List ℕ) (text : Option (List ℕ)) → IsFresh files k → IsFresh files (k ++ Configured name text ∷ [])
unfolding image_of
fresh_configured files k name text fresh = record {
  image = fold-append image_after (Some []) k (Configured name text ∷ []) ∙ fresh.image;
  views = λ file. view_of-append file k (Configured name text ∷ []) ∙ fresh.views file;
}

pub fresh_later : {old mid : Option Log} (name : List ℕ) (text : Option (List ℕ)) → AppendsAll old mid (λ l. Configured name text ∷ []) → Told old (λ l. (files : Files) × IsFresh files l) → Told mid (λ l. (files : Files) × IsFresh files l)
fresh_later name text call told = record {
  at = λ l is.
      let w = call.was l is in
      let fresh = told.at w.0 w.1 in
      (fresh.0, subst (IsFresh fresh.0) (sym w.2) (fresh_configured fresh.0 w.0 name text fresh.1));
}

-- ---- listening

pub holds_listened : {old new : Option Log} (port : ℕ) (store : KeptMap) → Appends old new (λ l. Listens port true) → Told old (Holds anything store) → Told new (Holds anything store)
holds_listened port store call known = record {
  at = λ l is.
      let w = call.was l is in
      subst (Holds anything store) (sym w.2) ((outlast-others (Listens port true ∷ []) (tt, tt) anything store w.0).0 (known.at w.0 w.1));
}

pub listens_and_goes : {old mid new : Option Log} (port most_turns : ℕ) → Appends old mid (λ l. Listens port true) → GrowsBy [] (GoesUpTo most_turns) mid new → GrowsBy [] (ListensAndGoes port most_turns) old new
listens_and_goes port most_turns call goes = record {
  was = λ l is.
      let later = goes.was l is in
      let earlier = call.was later.0 later.1 in (
        earlier.0,
        earlier.1,
        (
          Listens port true ∷ later.2.0,
          later.2.1 ∙ ap (λ (b : Log). b ++ later.2.0) earlier.2 ∙ append_assoc earlier.0 (Listens port true ∷ []) later.2.0,
          (later.2.0, refl, later.2.2),
        ),
      );
}

pub may_not : {old mid new : Option Log} (port : ℕ) → Appends old mid (λ l. Listens port false) → AppendsAll mid new (λ l. Printed (no_listener_line port) ∷ []) → GrowsBy [] (MayNot port) old new
may_not port call printed = record {
  was = λ l is.
      let later = printed.was l is in
      let earlier = call.was later.0 later.1 in (
        earlier.0,
        earlier.1,
        (
          Listens port false ∷ Printed (no_listener_line port) ∷ [],
          later.2 ∙ ap (λ (b : Log). b ++ Printed (no_listener_line port) ∷ []) earlier.2 ∙ append_assoc earlier.0 (Listens port false ∷ []) (Printed (no_listener_line port) ∷ []),
          refl,
        ),
      );
}

-- whether the proxy went astray meanwhile
pub served_listens : (astray : Bool) (port most_turns before now : ℕ) (old new : Option Log) → GrowsBy [] (ListensAndGoes port most_turns) old new → ListensAs port most_turns (served_as astray) old new before now
served_listens true port most_turns before now old new goes = goes
served_listens false port most_turns before now old new goes = goes

-- ---- the folder

opens_and : {old mid new : Option Log} (root : List ℕ) (P : Log → Type 0) → GrowsBy (Rooted root ∷ Listed true ∷ []) IsOnDisk old mid → GrowsBy [] P mid new → GrowsBy [] (OpensAnd root P) old new
opens_and root P opened rest = record {
  was = λ l is.
      let later = rest.was l is in
      let earlier = opened.was later.0 later.1 in
      let opening = Rooted root ∷ Listed true ∷ earlier.2.0 in (
        earlier.0,
        earlier.1,
        (
          opening ++ later.2.0,
          later.2.1 ∙ ap (λ (b : Log). b ++ later.2.0) earlier.2.1 ∙ append_assoc earlier.0 opening later.2.0,
          (opening, later.2.0, (earlier.2.0, refl, earlier.2.2), refl, later.2.2),
        ),
      );
}

pub opens_then : {old mid : Option Log} (new : Option Log) (root : List ℕ) (port most_turns : ℕ) (exit : Exit) (before between now : ℕ)
    → GrowsBy (Rooted root ∷ Listed true ∷ []) IsOnDisk old mid → before ≤ between → ListensAs port most_turns exit mid new between now → OpensOn [] root port most_turns exit old new before now
opens_then new root port most_turns Served before between now opened more listens = opens_and root _ opened listens
opens_then new root port most_turns ServedAstray before between now opened more listens = opens_and root _ opened listens
opens_then new root port most_turns NoListener before between now opened more listens =
    record { rises = rises_later before between now more listens.1; told = opens_and root _ opened listens.0 }
opens_then new root port most_turns NoMemory before between now opened more listens = absurd listens
opens_then new root port most_turns NoDisk before between now opened more listens = absurd listens
opens_then new root port most_turns Usage before between now opened more listens = absurd listens
opens_then new root port most_turns NoConfig before between now opened more listens = absurd listens

pub no_disk : {old mid new : Option Log} (root : List ℕ) (before between now : ℕ) → AppendsAll old mid (λ l. Rooted root ∷ Listed false ∷ []) → Rises mid before between → AppendsAll mid new (λ l. Printed no_disk_line ∷ []) → between ≤ now
    → HasNoDisk [] root old new before now
no_disk root before between now opened rose printed more = record {
  rises = rises_earlier _ before between now printed rose more;
  told = record {
    was = λ l is.
        let later = printed.was l is in
        let earlier = opened.was later.0 later.1 in (
          earlier.0,
          earlier.1,
          (
            Rooted root ∷ Listed false ∷ Printed no_disk_line ∷ [],
            later.2 ∙ ap (λ (b : Log). b ++ Printed no_disk_line ∷ []) earlier.2 ∙ append_assoc earlier.0 (Rooted root ∷ Listed false ∷ []) (Printed no_disk_line ∷ []),
            refl,
          ),
        );
  };
}

pub wants_memory : {old mid new : Option Log} (root : List ℕ) → GrowsBy (Rooted root ∷ []) MayBeListed old mid → AppendsAll mid new (λ l. Printed no_memory_line ∷ []) → WantsMemory [] root old new
wants_memory root opened printed = record {
  was = λ l is.
      let later = printed.was l is in
      let earlier = opened.was later.0 later.1 in
      let opening = Rooted root ∷ earlier.2.0 in (
        earlier.0,
        earlier.1,
        (
          opening ++ Printed no_memory_line ∷ [],
          later.2 ∙ ap (λ (b : Log). b ++ Printed no_memory_line ∷ []) earlier.2.1 ∙ append_assoc earlier.0 opening (Printed no_memory_line ∷ []),
          (opening, refl, inr (earlier.2.0, refl, earlier.2.2)),
        ),
      );
}

-- before the folder was used
pub wants_memory_first : {old new : Option Log} (root : List ℕ) → AppendsAll old new (λ l. Printed no_memory_line ∷ []) → WantsMemory [] root old new
wants_memory_first root printed = record {
  was = λ l is. let w = printed.was l is in (w.0, w.1, (Printed no_memory_line ∷ [], w.2, ([], refl, inl refl)));
}
