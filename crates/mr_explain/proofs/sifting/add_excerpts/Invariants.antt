use Rattle.std.proofs.Common.{◌≡◌, ◌++◌, map}
use Rattle.mr_input.specs.Files.{contents}
use Rattle.mr_explain.specs.Sifting.{as_file, heading_of, kept_lines}
use Rattle.mr_explain.proofs.sifting.add_excerpts.Given as goal

abbrev pub invariant-loop-excerpt : goal.invariant-loop-excerpt
invariant-loop-excerpt l = record {
  sources : map heading_of l.sources.items ≡ map heading_of l.initial.sources.items ++ map (λ f. f.0) (map (as_file l.name) (map kept_lines l.yielded));
  files : contents l.files.items ≡ contents l.initial.files.items ++ map (λ f. f.1) (map (as_file l.name) (map kept_lines l.yielded));
}
