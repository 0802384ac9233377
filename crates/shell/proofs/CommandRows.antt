-- Command lines, and what they come to by the definitions.
use Rattle.std.proofs.Common.{◌≡◌, [], ◌∷◌, Some, codes, option_map, refl}
use Rattle.clap.proofs.OnLiterals.{clap_on_literals}
use Rattle.clap.specs.Words.{all_of, fault_of, one_of, subcommand_of}
use Rattle.clap.specs.declared.error.kind.ErrorKind.TheVariants as kind
use Rattle.shell.specs.CommandLine.{bitable_app}

two_nodes : fault_of bitable_app (codes "bitable" ∷ codes "live" ∷ codes "--nodes" ∷ codes "2" ∷ codes "--seed" ∷ codes "1" ∷ codes "--loss=20" ∷ codes "x" ∷ []) ≡ kind.ValueValidation ∷ []
unfolding clap_on_literals
two_nodes = refl

three_nodes : fault_of bitable_app (codes "bitable" ∷ codes "live" ∷ codes "--nodes" ∷ codes "3" ∷ codes "--seed" ∷ codes "1" ∷ codes "--loss=20" ∷ codes "x" ∷ []) ≡ []
unfolding clap_on_literals
three_nodes = refl

no_seed : fault_of bitable_app (codes "bitable" ∷ codes "live" ∷ codes "--nodes" ∷ codes "3" ∷ codes "--loss=20" ∷ codes "x" ∷ []) ≡ kind.MissingRequiredArgument ∷ []
unfolding clap_on_literals
no_seed = refl

loss_of : option_map (λ found. one_of (codes "loss") found.1) (subcommand_of bitable_app (codes "bitable" ∷ codes "live" ∷ codes "--nodes" ∷ codes "3" ∷ codes "--seed" ∷ codes "1" ∷ codes "--loss=20" ∷ codes "x" ∷ []))
    ≡ Some (Some (codes "20"))
unfolding clap_on_literals
loss_of = refl

two_files : option_map (λ found. all_of (codes "FILE") found.1) (subcommand_of bitable_app (codes "bitable" ∷ codes "audit" ∷ codes "a" ∷ codes "b" ∷ [])) ≡ Some (Some (codes "a" ∷ codes "b" ∷ []))
unfolding clap_on_literals
two_files = refl

since_line : option_map (λ found. one_of (codes "since") found.1) (subcommand_of bitable_app (codes "bitable" ∷ codes "audit" ∷ codes "--since" ∷ codes "x" ∷ codes "a" ∷ [])) ≡ Some (Some (codes "x"))
unfolding clap_on_literals
since_line = refl

store_of_query : option_map (λ found. one_of (codes "QUERY") found.1) (subcommand_of bitable_app (codes "bitable" ∷ codes "beliefs" ∷ codes "a" ∷ codes "b" ∷ [])) ≡ Some (Some (codes "b"))
unfolding clap_on_literals
store_of_query = refl

no_sync : option_map (λ found. one_of (codes "sync") found.1) (subcommand_of bitable_app (codes "bitable" ∷ codes "open" ∷ codes "a" ∷ codes "--sync" ∷ codes "no" ∷ [])) ≡ Some (Some (codes "no"))
unfolding clap_on_literals
no_sync = refl

unknown_word : fault_of bitable_app (codes "bitable" ∷ codes "frob" ∷ []) ≡ kind.UnknownArgument ∷ kind.InvalidSubcommand ∷ []
unfolding clap_on_literals
unknown_word = refl
