pub mod SinCosForms
