use Rattle.std.proofs.Common.{◌≡◌, sym, subst}
use Rattle.std.specs.List.{AllByRecursion}
use Rattle.mr_certform.specs.declared.version.Version.{Version}
use Rattle.mr_certform.specs.Value.{Contents, Versioned, CanSpell}
use Rattle.mr_certform.specs.Flat.{Told, chunks, contents_of, IsWhole}
use Rattle.mr_certform.proofs.Versions.{groups_can}
use Rattle.mr_certform.proofs.version.VersionedCertificate.flat.Goals as goal

-- what is known of the certificate and its version is known of its values
known : (v : Version) (t : Told) (d : Contents) (s : Versioned) → record { version = v; certificate = d } ≡ s → contents_of t ≡ d → IsWhole t → AllByRecursion (CanSpell v) d.groups
    → CanSpell s.version (chunks t.entry_counts t.names)
known v t d s is same whole can =
    subst (λ (w : Versioned). CanSpell w.version (chunks t.entry_counts t.names)) is (groups_can v t whole (subst (λ (w : Contents). AllByRecursion (CanSpell v) w.groups) (sym same) can))

pub returns-clause-can : goal.returns-clause-can
returns-clause-can c = known c.self.inside.version c.certificate.inside.flat c.self.inside.certificate.now c.args.self.now c.self.view_is c.certificate.view_is c.certificate.invariant c.self.invariant
