-- What the host of a key is, in the words of a resource's own parts.
use Rattle.std.specs.Prelude.{◌≡◌, ◌↔◌, ◌⊎◌, ℕ, ◌<◌, false, true, List, [], ◌∷◌, ◌++◌, codes}
use Rattle.std.specs.List.{AllByRecursion}
use Rattle.mr_bytes.specs.Bytes.{folded}
use Rattle.mr_bytes.specs.declared.By.{By}
use Rattle.mr_partition.specs.Hosts.{ends_host, host, partition_by}

-- there are no bytes, or the first one ends a host
abbrev pub EndsOrMark : List ℕ → Type 0
EndsOrMark [] = Unit {0}
EndsOrMark (b ∷ bytes) = ends_host b ≡ true

-- the key is a scheme in any case of ASCII, the host as it is written, and what ends it
pub record IsHostOf (key h : List ℕ) : Type 0 where
  pub scheme : List ℕ
  pub written : List ℕ
  pub after : List ℕ
  pub key_is : key ≡ scheme ++ (written ++ after)
  pub scheme_is : (folded scheme ≡ codes "http://") ⊎ (folded scheme ≡ codes "https://")
  pub no_end : AllByRecursion (λ b. ends_host b ≡ false) written
  pub ends : EndsOrMark after
  pub host_is : h ≡ folded written

-- no bytes are the host of the key
abbrev pub HasNoHost : List ℕ → Type 0
HasNoHost key = (h : List ℕ) → IsHostOf key h → ⊥

-- what is computed is the host that the key's parts give, and no bytes where they give none
abbrev pub HostByParts : Type 0
HostByParts = (key h : List ℕ) → (host key ≡ h) ↔ (IsHostOf key h ⊎ (HasNoHost key × (h ≡ [])))

-- a key has one host at most
abbrev pub OneHost : Type 0
OneHost = (key a b : List ℕ) → IsHostOf key a → IsHostOf key b → a ≡ b

-- by its host too, a key has one of the partitions, numbered from 0
abbrev pub HostPartitionsAreBelow : Type 0
HostPartitionsAreBelow = (by : By) (key : List ℕ) (parts : ℕ) → 0 < parts → partition_by by key parts < parts
