-- Names of packages and of platform packages (Composer's documentation, "The composer.json schema", "name", and
-- "Basic usage", "Platform packages").
use Rattle.std.specs.Prelude.{ℕ, ◌+◌, Bool, true, false, ◌&&◌, ◌||◌, ◌==◌, nat_lt, List, [], ◌∷◌, take, drop, length, Option, Some, None, if◌then◌else◌, codes}
use Rattle.std.specs.List.{list_any, position_or_len}
use Rattle.path_name.specs.Bytes.{is_digit, is_between}
use Rattle.path_name.specs.Orders.{bytes_are_equal}
use Rattle.path_name.specs.Paths.{is_slash}
use Rattle.manifest_read.specs.declared.names.Reached.{Reached}
use Rattle.manifest_read.specs.declared.names.Reached.TheVariants.{Joint, Group, Dash}

-- `0` to `9` and `a` to `z`
abbrev pub is_name_byte : ℕ → Bool
is_name_byte byte = is_digit byte || is_between 97 122 byte

-- `_`, `.` or `-`
abbrev pub is_joint : ℕ → Bool
is_joint byte = byte == 95 || byte == 46 || byte == 45

-- A part of a name is groups of name bytes that single joints join, and `--` too where that is said: what may follow
-- a joint, a group, and one `-` that a second may follow.
abbrev pub after_group : Bool → ℕ → Option Reached
after_group double byte = if is_joint byte then (if double && byte == 45 then Some Dash else Some Joint) else None

abbrev pub after_joint : Bool → Reached → ℕ → Option Reached
after_joint double Joint byte = None
after_joint double Group byte = after_group double byte
after_joint double Dash byte = if byte == 45 then Some Joint else None

abbrev pub reached_by : Bool → Reached → ℕ → Option Reached
reached_by double reached byte = if is_name_byte byte then Some Group else after_joint double reached byte

abbrev pub is_group : Reached → Bool
is_group Group = true
is_group Joint = false
is_group Dash = false

abbrev pub is_part_from : Bool → Option Reached → List ℕ → Bool
is_part_from double None text = false
is_part_from double (Some reached) [] = is_group reached
is_part_from double (Some reached) (byte ∷ bytes) = is_part_from double (reached_by double reached byte) bytes

unfoldable pub is_part : Bool → List ℕ → Bool
is_part double text = is_part_from double (Some Joint) text

-- what stands before the first `/`, and behind it
abbrev pub vendor_of : List ℕ → List ℕ
vendor_of name = take (position_or_len is_slash name) name

abbrev pub project_of : List ℕ → List ℕ
project_of name = drop (position_or_len is_slash name + 1) name

-- two parts with a `/` between them, of which the second may have `--`
unfoldable pub is_package_name : List ℕ → Bool
is_package_name name = nat_lt (position_or_len is_slash name) (length name) && (is_part false (vendor_of name) && is_part true (project_of name))

-- names of the platform's own packages
unfoldable pub platform_words : List (List ℕ)
platform_words = codes "php" ∷ codes "php-64bit" ∷ codes "php-ipv6" ∷ codes "php-zts" ∷ codes "php-debug" ∷ codes "hhvm" ∷ codes "composer" ∷ codes "composer-plugin-api"
    ∷ codes "composer-runtime-api" ∷ []

-- `ext-` or `lib-` and a part
unfoldable pub is_extension : List ℕ → Bool
is_extension name = (bytes_are_equal (take 4 name) (codes "ext-") || bytes_are_equal (take 4 name) (codes "lib-")) && is_part false (drop 4 name)

unfoldable pub is_platform_name : List ℕ → Bool
is_platform_name name = list_any (bytes_are_equal name) platform_words || is_extension name

-- the name of what a link leads to
unfoldable pub is_link_name : List ℕ → Bool
is_link_name name = is_package_name name || is_platform_name name

-- names at whose place in `vendor` other files are written
unfoldable pub written_names : List (List ℕ)
written_names = codes "composer/autoload_psr4.php" ∷ codes "composer/autoload_namespaces.php" ∷ codes "composer/autoload_classmap.php" ∷ codes "composer/autoload_files.php"
    ∷ codes "composer/autoload_state.php" ∷ codes "composer/installed.json" ∷ []

unfoldable pub autoload_file : List ℕ
autoload_file = codes "autoload.php"

unfoldable pub is_reserved : List ℕ → Bool
is_reserved name = bytes_are_equal (vendor_of name) autoload_file || list_any (bytes_are_equal name) written_names
