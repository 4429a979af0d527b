-- The certificate of a good result is that of the sequential execution.
use Rattle.std.proofs.Common.{◌≡◌, ℕ, ◌<◌, List, [], ◌∷◌, length, map, refl, ap, sym, ◌∙◌, inl, inr, arith, Option, None, Some, IsSome}
use Rattle.std.proofs.lemmas.List.{ext_get_or}
use Rattle.std.proofs.lemmas.List.FromFn.{get_or-map-range_with_len, length-map-range_with_len}
use Rattle.std.specs.List.{AllByRecursion, cons_option, range_with_len}
use Rattle.mr_bytes.specs.declared.Name.{Name}
use Rattle.mr_bytes.specs.declared.Value.{Value}
use Rattle.mr_bytes.specs.Lists.{Has, Rises}
use Rattle.mr_bytes.specs.Order.{name_order}
use Rattle.mr_reduce.specs.Text.{text_of}
use Rattle.mr_bytes.specs.Pairs.{Triple}
use Rattle.mr_sequential.specs.Rules.{part}
use Rattle.mr_sequential.specs.Emitted.{emitted}
use Rattle.mr_sequential.specs.Good.{named, key_of, IsGoodGroup, groups_at, AreGood}
use Rattle.mr_sequential.specs.Certified.{names_with, groups_of, certificate_of}
use Rattle.mr_sequential.specs.GoodLaws.{CertificateIsSequential, CertificateIsUnique}
use Rattle.mr_bytes.proofs.ListLaws.{Has-all}
use Rattle.mr_sequential.proofs.NameLaws.{names_rise}
use Rattle.mr_sequential.proofs.NamedLaws.{triples_under, named-Has}
use Rattle.mr_sequential.proofs.GoodLaws.{keys_are, triples_are}

-- names that each name a triple are the names of the triples under them
names_back : (ts : List Triple) (ns : List Name) → AllByRecursion (λ n. IsSome (named ts n)) ns → map (λ (t : Triple). t.name) (triples_under ts ns) ≡ ns
names_back ts [] all = refl
names_back ts (n ∷ ns) all = by (named ts n) refl all.0 (names_back ts ns all.1)
  where
    by : (o : Option Triple) → named ts n ≡ o → IsSome o → map (λ (t : Triple). t.name) (triples_under ts ns) ≡ ns
        → map (λ (t : Triple). t.name) (cons_option o (triples_under ts ns)) ≡ n ∷ ns
    by None is some rest = absurd cc
    by (Some t) is some rest = let here : t.name ≡ n = (named-Has ts n t is).1 in λ i. here i ∷ rest i

-- a list made anew from what is told of its elements
remade : {X Y : Type 0} (f : X → Y) (g : Y → X) (xs : List X) → ((x : X) → Has xs x → x ≡ g (f x)) → xs ≡ map g (map f xs)
remade f g [] same = refl
remade f g (x ∷ xs) same = let here = same x (inl refl) in let rest = remade f g xs (λ y h. same y (inr h)) in λ i. here i ∷ rest i

module _ (part : List ℕ → ℕ) (text : List ℕ → List Value → List ℕ) (ts : List Triple) (parts : List (List (List Name))) (outputs : List (List ℕ)) (rise : Rises name_order (map (λ (t : Triple). t.name) ts)) (good : AreGood (record { part = part; text = text }) ts parts outputs) where
  pub part_is : (p : ℕ) → p < length parts → groups_at parts p ≡ groups_of part ts p
  part_is p lt =
      remade (key_of ts) (names_with ts) (groups_at parts p) (λ g h.
      sym (names_back ts g (Has-all (IsGoodGroup part ts p) (groups_at parts p) g (good.each p lt).groups.each h).entries)
      ∙ ap (map (λ (t : Triple). t.name)) (triples_are part text ts parts outputs rise good p lt g h))
      ∙ ap (map (names_with ts)) (keys_are part text ts parts outputs rise good p lt)

  pub parts_are : parts ≡ map (groups_of part ts) (range_with_len 0 (length parts))
  parts_are =
      ext_get_or [] parts (map (groups_of part ts) (range_with_len 0 (length parts))) (sym (length-map-range_with_len (groups_of part ts) 0 (length parts)))
      (λ q l. part_is q l ∙ sym (get_or-map-range_with_len (groups_of part ts) 0 (length parts) q q [] l (omega arith)))

pub certificate_is_sequential : CertificateIsSequential
certificate_is_sequential request files outputs c some good =
    let ts : List Triple = emitted request.job request.split files c.skips in
    let groups : c.groups ≡ map (groups_of (part request) ts) (range_with_len 0 request.parts) =
    parts_are (part request) (text_of request.job) ts c.groups outputs (names_rise request files c.skips some) good.result
    ∙ ap (λ n. map (groups_of (part request) ts) (range_with_len 0 n)) good.one_each in
    λ i. record {
      job = good.job i;
      flags = good.flags i;
      literal = good.literal i;
      parts = good.parts i;
      split_size = good.split_size i;
      lengths = good.lengths i;
      skips = c.skips;
      groups = groups i;
    }

pub certificate_is_unique : CertificateIsUnique
certificate_is_unique request files outputs outputs' c c' some good good' same =
    certificate_is_sequential request files outputs c some good ∙ ap (certificate_of request files) same ∙ sym (certificate_is_sequential request files outputs' c' some good')
